-- An answer is known by its outcome: no two refusals have the same number and the same place. Assumes nothing.
use Rattle.std.specs.Prelude.{ℕ, List, [], ◌∷◌, ◌++◌, Bool, true, false, get_or, Result, Ok, Err}
use Rattle.std.specs.Result.{IsErrAnd}
use Rattle.std.proofs.lemmas.Result.{err_from_is_err_and}
use mathlib.Core.Path.{◌≡◌, refl, sym, ap, ap₂, ◌∙◌}
use Rattle.geometry.specs.declared.Disk.{Disk}
use Rattle.geometry.specs.declared.Tuple.{Tuple}
use Rattle.refusal.specs.declared.Refusal.{Refusal}
use Rattle.refusal.specs.declared.Refusal.TheVariants.{
  NotHeld,
  BeyondLimits,
  NotWhole,
  BadRow,
  BadPair,
  NotAllowed,
  WrongLength,
  HighMark,
  PlaceTooHigh,
  UserUnitTooHigh,
  LeavesUnit,
  Marked,
  Incomplete,
  ListTooShort,
}
use Rattle.refusal.specs.Refusal.{Rule, Outcome, refused, unless, answer, number_of, place_of, outcome_of}
use Rattle.refusal.proofs.Answer.{refused_accepted, first, next}

abbrev disk : ℕ → Disk
disk x = record { 0 = x }

abbrev tuple : ℕ → Tuple
tuple t = record { 0 = t }

-- the reason of a number and a place, by the table's order
abbrev reason : ℕ → ℕ → Refusal
reason n p =
    get_or
    (ListTooShort
    ∷ NotHeld
    ∷ BeyondLimits
    ∷ NotWhole
    ∷ BadRow p
    ∷ BadPair p
    ∷ NotAllowed
    ∷ WrongLength
    ∷ HighMark (disk p)
    ∷ PlaceTooHigh
    ∷ UserUnitTooHigh
    ∷ LeavesUnit
    ∷ Marked (disk p)
    ∷ Incomplete (tuple p)
    ∷ [])
    n ListTooShort

named : (x : Refusal) → reason (number_of x) (place_of x) ≡ x
named NotHeld = refl
named BeyondLimits = refl
named NotWhole = refl
named (BadRow row) = refl
named (BadPair pair) = refl
named NotAllowed = refl
named WrongLength = refl
named (HighMark disk) = refl
named PlaceTooHigh = refl
named UserUnitTooHigh = refl
named LeavesUnit = refl
named (Marked disk) = refl
named (Incomplete tuple) = refl
named ListTooShort = refl

pub same_refusal :
    {A : Type 0} (x y : Refusal) → ◌≡◌ {A = Outcome A} (refused (number_of x) (place_of x)) (refused (number_of y) (place_of y))
    → x ≡ y
same_refusal x y e =
    let n : number_of x ≡ number_of y = cc in
    let p : place_of x ≡ place_of y = cc in
    sym (named x) ∙ ap₂ reason n p ∙ named y

pub same_answer : {A : Type 0} (r s : Result A Refusal) → outcome_of r ≡ outcome_of s → r ≡ s
same_answer (Ok a) (Ok b) e = let w : a ≡ b = cc in ap Ok w
same_answer (Ok a) (Err y) e = absurd (refused_accepted e refl)
same_answer (Err x) (Ok b) e = absurd (refused_accepted refl e)
same_answer (Err x) (Err y) e = ap Err (same_refusal x y e)

-- a rule is a row of the table: its number and its place are those of a reason
abbrev pub Tabled : Rule → Type 0
Tabled x = (why : Refusal) × (number_of why ≡ x.number) × (place_of why ≡ x.place)

abbrev pub AllTabled : List Rule → Type 0
AllTabled [] = Unit {0}
AllTabled (x ∷ xs) = Tabled x × AllTabled xs

pub tabled_append : (xs ys : List Rule) → AllTabled xs → AllTabled ys → AllTabled (xs ++ ys)
tabled_append [] ys f g = g
tabled_append (x ∷ xs) ys f g = (f.0, tabled_append xs ys f.1 g)

-- where the rules are rows of the table, some return has their answer
pub some_answer :
    {A : Type 0} (xs : List Rule) (a : A) → AllTabled xs → (r : Result A Refusal) × (outcome_of r ≡ answer xs a)
some_answer [] a f = (Ok a, refl)
some_answer {A} (x ∷ xs) a f = go x.test refl (some_answer xs a f.1)
  where
    go :
        (t : Bool) → x.test ≡ t → (r : Result A Refusal) × (outcome_of r ≡ answer xs a)
        → (r : Result A Refusal) × (outcome_of r ≡ answer (x ∷ xs) a)
    go true h w = (Err f.0.0, ap₂ refused f.0.1 f.0.2 ∙ sym (first x xs a h))
    go false h w = (w.0, w.1 ∙ sym (next x xs a h))

-- `?` hands on the refusal that it meets
pub passed_on :
    {A : Type 0} (r : Result A Refusal) (x : Refusal) → IsErrAnd r (λ (e : Refusal). e ≡ x)
    → outcome_of r ≡ refused (number_of x) (place_of x)
passed_on r x h = let p = err_from_is_err_and r h in rw (p.1, p.2) refl
