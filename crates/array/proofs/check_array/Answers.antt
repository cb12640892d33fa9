-- `array::check_array` meets its contract: each return by the law of its case. Assumes nothing.
use mathlib.Core.Path.{◌≡◌, sym, ap, ◌∙◌}
use mathlib.Core.Bool.{true}
use lib.ListN.{length}
use borrow.Author.Tests.{not-true, not-false}
use Rattle.refusal.specs.Refusal.{accepted, verdict}
use Rattle.refusal.proofs.Same.{passed_on}
use Rattle.geometry.specs.Geometry.{Sound, disks_of}
use Rattle.sizes.specs.Sizes.{sizes_rules}
use Rattle.sizes.proofs.Reasons.{accepted_is_laid}
use Rattle.array.specs.Rules.{array_fits}
use Rattle.array.proofs.Fits.{array_refused, array_unfit, marks_unfit, marks_high, marks_fine}
use Rattle.array.proofs.check_array.Goals as goal
use Rattle.array.proofs.check_array.Goals.{After-first_high, In_ok-check_sizes}

-- none of 2 to 6 is due
fine : (c : In_ok-check_sizes) → verdict (sizes_rules c.args.geometry c.args.design.now) ≡ accepted tt
fine c = sym c.in_ok-check_sizes.ensures

sound : (c : In_ok-check_sizes) → Sound c.args.geometry
sound c = (accepted_is_laid _ _ (fine c)).sound

pub returns-in_err-check_sizes : goal.returns-in_err-check_sizes
returns-in_err-check_sizes c =
    passed_on _ _ c.from_residual.ensures.1
    ∙ sym
    (array_refused _ _ _ _ _ _
    (sym c.in_err-check_sizes.ensures))

pub array_fits-requires : goal.array_fits-requires
array_fits-requires c = sound c

pub returns-then-not-array_fits : goal.returns-then-not-array_fits
returns-then-not-array_fits c =
    sym (array_unfit _ _ _ _ (fine (goal.at.returns-then-not-array_fits c).In_ok-check_sizes) (sym c.array_fits.ensures ∙ not-true _ c.if-not-array_fits.true-raw))

pub disks-requires : goal.disks-requires
disks-requires c = sound (goal.at.disks-requires c).In_ok-check_sizes

pub returns-then-marks-disks : goal.returns-then-marks-disks
returns-then-marks-disks c =
    sym (marks_unfit _ _ _ _ (fine (goal.at.returns-then-marks-disks c).In_ok-check_sizes) (λ e. c.if-marks-disks.true (e ∙ sym c.disks.ensures)))

-- 7 is not due
fits : (c : After-first_high) → array_fits c.args.geometry c.args.bytes ≡ true
fits c = sym c.array_fits.ensures ∙ not-false _ c.if-not-array_fits.false-raw

long : (c : After-first_high) → length c.args.marks.now ≡ disks_of c.args.geometry
long c = c.if-marks-disks.false ∙ c.disks.ensures

pub returns-in-Some : goal.returns-in-Some
returns-in-Some c =
    let at = goal.at.returns-in-Some c in
    sym (marks_high _ _ _ _ (fine at.In_ok-check_sizes) (fits at.After-first_high) (long at.After-first_high) _ (sym c.in-Some.ensures))

pub returns : goal.returns
returns c =
    let at = goal.at.returns c in
    sym (marks_fine _ _ _ _ (fine at.In_ok-check_sizes) (fits at.After-first_high) (long at.After-first_high) (sym c.first_high.ensures ∙ c.in_default.is))
