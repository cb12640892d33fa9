-- A call's answer from the answers of the parts of its list of rules. Assumes nothing.
use Prim.Native.Nat.{ℕ}
use native.Mathlib.Omega.{arith}
use mathlib.Core.Path.{◌≡◌, refl, sym, ◌∙◌}
use mathlib.Core.Bool.{Bool, true, false}
use mathlib.Core.List.{List, [], ◌∷◌, ◌++◌}
use Rattle.refusal.specs.Refusal.{Rule, Outcome, refused, accepted, unless, answer, verdict}

-- no answer is both a refusal and an acceptance
pub refused_accepted : {A : Type 0} {o : Outcome A} {n p : ℕ} {a : A} → o ≡ refused n p → o ≡ accepted a → ⊥
refused_accepted e f = let z : ◌≡◌ {A = ℕ} 0 1 = cc in omega arith

-- one rule: it refuses, or the answer is that of the rest
pub first : {A : Type 0} (x : Rule) (xs : List Rule) (a : A) → x.test ≡ true → answer (x ∷ xs) a ≡ refused x.number x.place
first x xs a e = rw e

pub next : {A : Type 0} (x : Rule) (xs : List Rule) (a : A) → x.test ≡ false → answer (x ∷ xs) a ≡ answer xs a
next x xs a e = rw e

-- no test passes
abbrev pub Quiet : List Rule → Type 0
Quiet [] = Unit {0}
Quiet (x ∷ xs) = (x.test ≡ false) × Quiet xs

pub quiet_append : (xs ys : List Rule) → Quiet (xs ++ ys) → Quiet xs × Quiet ys
quiet_append [] ys q = (tt, q)
quiet_append (x ∷ xs) ys q = let r = quiet_append xs ys q.1 in ((q.0, r.0), r.1)

pub append_quiet : (xs ys : List Rule) → Quiet xs → Quiet ys → Quiet (xs ++ ys)
append_quiet [] ys q r = r
append_quiet (x ∷ xs) ys q r = (q.0, append_quiet xs ys q.1 r)

-- accepted exactly if no test passes, and then with the value given
pub quiet_accepted : {A : Type 0} (xs : List Rule) (a : A) → Quiet xs → answer xs a ≡ accepted a
quiet_accepted [] a q = refl
quiet_accepted (x ∷ xs) a q = next x xs a q.0 ∙ quiet_accepted xs a q.1

pub accepted_quiet : {A : Type 0} (xs : List Rule) (a b : A) → answer xs a ≡ accepted b → Quiet xs
accepted_quiet [] a b e = tt
accepted_quiet (x ∷ xs) a b e = go x.test refl (accepted_quiet xs a b)
  where
    go : (t : Bool) → x.test ≡ t → (answer xs a ≡ accepted b → Quiet xs) → Quiet (x ∷ xs)
    go true f rest = absurd (refused_accepted (first x xs a f) e)
    go false f rest = (f, rest (sym (next x xs a f) ∙ e))

pub accepted_value : {A : Type 0} (xs : List Rule) (a b : A) → answer xs a ≡ accepted b → b ≡ a
accepted_value xs a b e = let f = quiet_accepted xs a (accepted_quiet xs a b e) in cc

-- a refusal behind a rule stays one whatever the rest was
kept_refused :
    {A B : Type 0} (t : Bool) (m q n p : ℕ) (o : Outcome A) (o' : Outcome B)
    → (o ≡ refused n p → o' ≡ refused n p)
    → unless t m q o ≡ refused n p → unless t m q o' ≡ refused n p
kept_refused true m q n p o o' rest e = cc
kept_refused false m q n p o o' rest e = rest e

-- the answer at one value from the answer at another
pub refused_at : {A B : Type 0} (xs : List Rule) (a : A) (b : B) (n p : ℕ) → answer xs a ≡ refused n p → answer xs b ≡ refused n p
refused_at [] a b n p e = absurd (refused_accepted e refl)
refused_at (x ∷ xs) a b n p e =
    kept_refused x.test x.number x.place n p (answer xs a) (answer xs b) (refused_at xs a b n p) e

pub accepted_at : {A B : Type 0} (xs : List Rule) (a c : A) (b : B) → answer xs a ≡ accepted c → answer xs b ≡ accepted b
accepted_at xs a c b e = quiet_accepted xs b (accepted_quiet xs a c e)

-- of two lists of rules one after the other: where the first accepts, the second answers; where it refuses, so does the whole
pub skip : {A : Type 0} (xs ys : List Rule) (a : A) → verdict xs ≡ accepted tt → answer (xs ++ ys) a ≡ answer ys a
skip [] ys a e = refl
skip (x ∷ xs) ys a e =
    let q = accepted_quiet (x ∷ xs) tt tt e in
    next x (xs ++ ys) a q.0 ∙ skip xs ys a (quiet_accepted xs tt q.1)

pub stop :
    {A : Type 0} (xs ys : List Rule) (a : A) (n p : ℕ) → verdict xs ≡ refused n p → answer (xs ++ ys) a ≡ refused n p
stop [] ys a n p e = absurd (refused_accepted e refl)
stop (x ∷ xs) ys a n p e =
    kept_refused x.test x.number x.place n p (verdict xs) (answer (xs ++ ys) a) (stop xs ys a n p) e

pub accepted_append :
    (xs ys : List Rule) → verdict (xs ++ ys) ≡ accepted tt → (verdict xs ≡ accepted tt) × (verdict ys ≡ accepted tt)
accepted_append xs ys e =
    let q = quiet_append xs ys (accepted_quiet (xs ++ ys) tt tt e) in
    (quiet_accepted xs tt q.0, quiet_accepted ys tt q.1)
