-- The verdict of rules 2 to 5, a law for each answer. Assumes nothing.
use Prim.Native.Nat.{ℕ, ◌*◌, ◌/◌, ◌<◌}
use mathlib.Core.Path.{◌≡◌, ap, ◌∙◌}
use mathlib.Core.Bool.{true, false, ◌&&◌}
use mathlib.Core.List.{List}
use native.Mathlib.Nat.{mul-div_cancel}
use native.Mathlib.Omega.{arith}
use lib.Dec.{eqb}
use lib.ListN.{length}
use borrow.Author.Tests.{eqb-true}
use Rattle.std.specs.Prelude.{Some, None}
use Rattle.counting.specs.Counting.{any_below, first_below}
use Rattle.counting.proofs.Bools.{and_both}
use Rattle.counting.proofs.Laws.{any_none, first_some, first_silent}
use Rattle.refusal.specs.Refusal.{refused, accepted, verdict}
use Rattle.geometry.specs.Geometry.{Limits, beyond_limits, whole, b_of}
use Rattle.geometry.proofs.Laws.{limits_of}
use Rattle.checking.specs.Rules.{row_bad, pair_bad, design_rules}
use Rattle.checking.specs.Table.{Rows, GoodRows, rows_in}

-- neither 2 nor 3 is due
pub record Shaped (v k : ℕ) (d : List ℕ) : Type 0 where
  pub within : beyond_limits v k ≡ false
  pub fits : (whole v k && eqb (length d) (b_of v k * k)) ≡ true

module _ (v k : ℕ) (d : List ℕ) where
  pub verdict_2 : beyond_limits v k ≡ true → verdict (design_rules v k d) ≡ refused 2 0
  unfolding design_rules
  verdict_2 e = rw e

  pub verdict_3 : beyond_limits v k ≡ false → (whole v k && eqb (length d) (b_of v k * k)) ≡ false → verdict (design_rules v k d) ≡ refused 3 0
  unfolding design_rules
  verdict_3 e f = rw (e, f)

  module _ (s : Shaped v k d) where
    pub shaped_limits : Limits v k
    shaped_limits = limits_of v k s.within

    pub shaped_rows : Rows v k (b_of v k) d
    shaped_rows =
        record {
          limits = shaped_limits;
          size = eqb-true (length d) (b_of v k * k) (and_both (whole v k) (eqb (length d) (b_of v k * k)) s.fits).1;
        }

    -- so many rows the list has
    pub shaped_count : rows_in k d ≡ b_of v k
    shaped_count =
        let pos : 0 < k = omega (arith, shaped_limits) in
        ap (λ (n : ℕ). n / k) shaped_rows.size ∙ mul-div_cancel (b_of v k) pos

    -- 4 and 5: by what the scans found
    pub verdict_4 : (row : ℕ) → first_below (row_bad v k d) (b_of v k) ≡ Some row → verdict (design_rules v k d) ≡ refused 4 row
    unfolding design_rules
    verdict_4 row e = let w = first_some (row_bad v k d) (b_of v k) row e in rw (s.within, s.fits, w.0, w.1)

    module _ (none : first_below (row_bad v k d) (b_of v k) ≡ None) where
      good : any_below (row_bad v k d) (b_of v k) ≡ false
      good = first_silent (row_bad v k d) (b_of v k) none

      pub shaped_good : GoodRows v k (b_of v k) d
      shaped_good = record { rows = shaped_rows; good = any_none (row_bad v k d) (b_of v k) good }

      pub verdict_5 : (pair : ℕ) → first_below (pair_bad v k d) (v * v) ≡ Some pair → verdict (design_rules v k d) ≡ refused 5 pair
      unfolding design_rules
      verdict_5 pair e = let w = first_some (pair_bad v k d) (v * v) pair e in rw (s.within, s.fits, good, w.0, w.1)

      pub verdict_fine : first_below (pair_bad v k d) (v * v) ≡ None → verdict (design_rules v k d) ≡ accepted tt
      unfolding design_rules
      verdict_fine e = rw (s.within, s.fits, good, first_silent (pair_bad v k d) (v * v) e)
