-- A row whose place is "first such row" or "lowest such tuple". Assumes nothing.
use Prim.Native.Nat.{ℕ, ◌<◌}
use mathlib.Core.Path.{◌≡◌, refl, sym}
use mathlib.Core.Bool.{Bool, true, false}
use borrow.Author.Tests.{ltb-true}
use Rattle.counting.specs.Counting.{lowest, any_below}
use Rattle.counting.proofs.Bools.{bool_not_both}
use Rattle.counting.proofs.Laws.{lowest_holds, lowest_before, lowest_is, any_true}
use Rattle.refusal.specs.Refusal.{rule}
use Rattle.refusal.specs.Due.{row}
use Rattle.refusal.proofs.Exactness.{Fit}

-- a test whose passing leads nowhere fails
pub never_true : (t : Bool) → (t ≡ true → ⊥) → t ≡ false
never_true true h = absurd (h refl)
never_true false h = refl

-- p is the first below n of which P holds
abbrev pub First : (ℕ → Type 0) → ℕ → ℕ → Type 0
First P n p = (p < n) × P p × ((q : ℕ) → q < p → P q → ⊥)

pub first_fit :
    (m : ℕ) (f : ℕ → Bool) (n : ℕ) (P : ℕ → Type 0)
    → ((i : ℕ) → f i ≡ true → P i) → ((i : ℕ) → P i → f i ≡ true)
    → Fit (rule m (any_below f n) (lowest f n)) (row m (First P n))
first_fit m f n P to from =
    record {
      number = refl;
      holds =
          λ (e : any_below f n ≡ true).
          let h : lowest f n < n = ltb-true (lowest f n) n e in (
            h,
            to (lowest f n) (lowest_holds f n h),
            λ (q : ℕ) (s : q < lowest f n) (w : P q). bool_not_both (f q) (from q w) (lowest_before f n q s),
          );
      only =
          λ (p : ℕ) (h : First P n p). (
            any_true f n p h.0 (from p h.1),
            sym
                (lowest_is f n p h.0 (from p h.1)
                (λ (i : ℕ) (s : i < p). never_true (f i) (λ (e : f i ≡ true). h.2 i s (to i e)))),
          );
    }
