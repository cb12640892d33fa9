-- Whether some mark is above 1, and the first that is. Assumes nothing.
use Prim.Native.Nat.{ℕ, zero, suc, ◌+◌, ◌≤◌, ◌<◌}
use mathlib.Core.Path.{◌≡◌, refl, sym, ap, subst, ◌∙◌}
use mathlib.Core.Bool.{Bool, true, false, ◌||◌}
use mathlib.Core.List.{List}
use native.Mathlib.Numerals.{add-one}
use native.Mathlib.Omega.{arith}
use lib.ListN.{length, take}
use Rattle.std.proofs.Math.Seq.{take-length}
use lib.Dec.{ltb}
use borrow.Author.Tests.{lt-ltb, le-ltb, ltb-true}
use Rattle.std.specs.Prelude.{Option, Some, None, MatchOption, fold}
use Rattle.std.specs.List.{AllWithin, HoldsAt}
use Rattle.std.proofs.lemmas.List.Sums.{fold_more}
use Rattle.counting.specs.Counting.{lowest, any_below, first_below}
use Rattle.counting.proofs.Laws.{first_is, first_none}
use Rattle.array.specs.Rules.{mark_high}
use Rattle.array.proofs.Fits.{mark_high_lem, mark_low}

-- one number more
any_more : (f : ℕ → Bool) (n : ℕ) → any_below f (n + 1) ≡ (any_below f n || f n)
unfolding lowest
any_more f n = go (ltb (lowest f n) n) refl (f n) refl
  where
    go : (b : Bool) → ltb (lowest f n) n ≡ b → (h : Bool) → f n ≡ h → any_below f (n + 1) ≡ (ltb (lowest f n) n || f n)
    go true p h q =
        let l : lowest f n < n = ltb-true (lowest f n) n p in
        rw (add-one n, p) (lt-ltb (lowest f n) (suc n) (omega arith))
    go false p true q = rw (add-one n, p, q) (lt-ltb n (suc n) (omega arith))
    go false p false q = rw (add-one n, p, q) (le-ltb (suc n) (suc n) (omega arith))

-- found among the first x marks
abbrev pub found : List ℕ → Bool
found = fold (λ (b : Bool) (m : ℕ). b || ltb 1 m) false

looked : (marks : List ℕ) (x : ℕ) → x ≤ length marks → found (take x marks) ≡ any_below (mark_high marks) x
unfolding lowest mark_high
looked marks zero h = refl
looked marks (suc x) h =
    subst (λ (n : ℕ). found (take n marks) ≡ any_below (mark_high marks) n) (add-one x)
    (fold_more (λ (b : Bool) (m : ℕ). b || ltb 1 m) false marks x 0 h
    ∙ ap (λ (b : Bool). b || mark_high marks x) (looked marks x (omega arith)) ∙ sym (any_more (mark_high marks) x))

pub looked_all : (marks : List ℕ) → found marks ≡ any_below (mark_high marks) (length marks)
looked_all marks = ap found (sym (take-length marks)) ∙ looked marks (length marks) (omega arith)

-- the first mark above 1, if there is one
pub first_is_lowest :
    (marks : List ℕ) (r : Option ℕ)
    → MatchOption r (AllWithin (λ m. m ≤ 1) marks 0 (length marks)) (λ x. (x < length marks) × HoldsAt (λ m. 1 < m) marks x × AllWithin (λ m. m ≤ 1) marks 0 x)
    → r ≡ first_below (mark_high marks) (length marks)
first_is_lowest marks None h = sym (first_none _ (length marks) (λ i p. mark_low marks i (h i 0 (omega arith) p)))
first_is_lowest marks (Some x) h =
    sym (first_is _ (length marks) x h.0 (mark_high_lem marks x (h.1 0)) (λ i p. mark_low marks i (h.2 i 0 (omega arith) p)))
