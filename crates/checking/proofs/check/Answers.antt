-- `check`: each return is a law of the verdict of rules 2 to 5. Assumes nothing.
use mathlib.Core.Path.{◌≡◌, sym, ◌∙◌}
use native.Mathlib.Nat.{mul-le-mul}
use native.Mathlib.Omega.{arith}
use Rattle.std.specs.Prelude.{None}
use Rattle.counting.specs.Counting.{first_below}
use Rattle.counting.proofs.Laws.{first_some}
use Rattle.geometry.proofs.Laws.{limits_of, b_bound}
use Rattle.geometry.specs.Geometry.{b_of}
use Rattle.checking.specs.Rules.{row_bad}
use Rattle.checking.proofs.Verdicts.{
  Shaped,
  verdict_2,
  verdict_3,
  shaped_limits,
  shaped_rows,
  shaped_count,
  verdict_4,
  shaped_good,
  verdict_5,
  verdict_fine,
}
use Rattle.checking.proofs.check.Goals as goal
use Rattle.checking.proofs.check.Goals.{Else-not-list_fits, In_default}

pub returns-then-beyond_limits : goal.returns-then-beyond_limits
returns-then-beyond_limits c = sym (verdict_2 _ _ _ (sym c.beyond_limits.ensures ∙ c.if-beyond_limits.true))

pub list_fits-requires : goal.list_fits-requires
list_fits-requires c = limits_of _ _ (sym c.beyond_limits.ensures ∙ c.if-beyond_limits.false)

pub returns-then-not-list_fits : goal.returns-then-not-list_fits
returns-then-not-list_fits c =
    sym
    (verdict_3 _ _ _ (sym c.beyond_limits.ensures ∙ c.if-beyond_limits.false)
    (sym c.list_fits.ensures ∙ c.if-not-list_fits.true))

-- what holds once 2 and 3 are not due
shaped : (c : Else-not-list_fits) → Shaped c.args.v c.args.k c.args.design.now
shaped c =
    record {
      within = sym c.beyond_limits.ensures ∙ c.if-beyond_limits.false;
      fits = sym c.list_fits.ensures ∙ c.if-not-list_fits.false;
    }

pub first_bad_row-requires : goal.first_bad_row-requires
first_bad_row-requires c =
    let s = shaped (goal.at.first_bad_row-requires c).Else-not-list_fits in rw (shaped_count _ _ _ s) (shaped_rows _ _ _ s)

pub overflow_cast-result : goal.overflow_cast-result
overflow_cast-result c =
    let s = shaped (goal.at.overflow_cast-result c).Else-not-list_fits in
    omega (arith, b_bound _ _ (shaped_limits _ _ _ s), (first_some _ _ _ (sym c.in-Some.ensures)).2, shaped_count _ _ _ s)

pub returns-in-Some : goal.returns-in-Some
returns-in-Some c =
    let s = shaped (goal.at.returns-in-Some c).Else-not-list_fits in
    sym (verdict_4 _ _ _ s _ (rw (shaped_count _ _ _ s) at (sym c.in-Some.ensures)))

-- what holds once 4 is not due either
no_row :
    (c : In_default) → Shaped c.args.v c.args.k c.args.design.now
    → first_below (row_bad c.args.v c.args.k c.args.design.now) (b_of c.args.v c.args.k) ≡ None
no_row c s = rw (shaped_count _ _ _ s) at (sym c.first_bad_row.ensures ∙ c.in_default.is)

pub first_bad_pair-requires : goal.first_bad_pair-requires
first_bad_pair-requires c =
    let h = goal.at.first_bad_pair-requires c in
    let s = shaped h.Else-not-list_fits in shaped_good _ _ _ s (no_row h.In_default s)

pub overflow_cast-result-in-Some-first_bad_pair : goal.overflow_cast-result-in-Some-first_bad_pair
overflow_cast-result-in-Some-first_bad_pair c =
    let l = shaped_limits _ _ _ (shaped (goal.at.overflow_cast-result-in-Some-first_bad_pair c).Else-not-list_fits) in
    omega (arith, mul-le-mul l.v_high l.v_high, (first_some _ _ _ (sym c.in-Some-first_bad_pair.ensures)).2)

pub returns-in-Some-first_bad_pair : goal.returns-in-Some-first_bad_pair
returns-in-Some-first_bad_pair c =
    let h = goal.at.returns-in-Some-first_bad_pair c in
    let s = shaped h.Else-not-list_fits in
    sym (verdict_5 _ _ _ s (no_row h.In_default s) _ (sym c.in-Some-first_bad_pair.ensures))

pub returns : goal.returns
returns c =
    let h = goal.at.returns c in
    let s = shaped h.Else-not-list_fits in
    sym
    (verdict_fine _ _ _ s (no_row h.In_default s) (sym c.first_bad_pair.ensures ∙ c.in_default-first_bad_pair.is))
