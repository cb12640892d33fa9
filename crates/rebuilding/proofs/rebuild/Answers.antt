-- `rebuilding::rebuild` meets its contract: each return by the law of its case. Assumes nothing.
use mathlib.Core.Path.{◌≡◌, sym}
use lib.ListN.{length}
use Rattle.refusal.specs.Refusal.{accepted, verdict}
use Rattle.refusal.proofs.Same.{passed_on}
use Rattle.array.specs.Rules.{array_rules}
use Rattle.array.proofs.Fits.{Ready, ready}
use Rattle.rebuilding.proofs.Answers.{set_lost, set_long, array_refuses, refuses, goes}
use Rattle.rebuilding.proofs.rebuild.Goals as goal
use Rattle.rebuilding.proofs.rebuild.Goals.{In_ok-check_array}

-- none of 2 to 8 is due
fine : (c : In_ok-check_array) → let a = c.args in verdict (array_rules a.geometry a.design.now (length a.array.now) a.marks.now) ≡ accepted tt
fine c = sym c.in_ok-check_array.ensures

checked-ready : (c : In_ok-check_array) → let a = c.args in Ready a.geometry a.design.now (length a.array.now) a.marks.now
checked-ready c = let a = c.args in ready a.geometry a.design.now (length a.array.now) a.marks.now (fine c)

pub returns-in_err-check_array : goal.returns-in_err-check_array
returns-in_err-check_array c =
    let a = c.args in
    rw (passed_on _ _ c.from_residual.ensures.1) (array_refuses a.geometry a.design.now a.marks.now a.array.now _ _ (sym c.in_err-check_array.ensures))

pub invariant_of-layout : goal.invariant_of-layout
invariant_of-layout c = record { laid = (checked-ready (goal.at.invariant_of-layout c).In_ok-check_array).laid }

pub rebuild_lost-requires : goal.rebuild_lost-requires
rebuild_lost-requires c =
    let h = checked-ready (goal.at.rebuild_lost-requires c).In_ok-check_array in record { disks_in_bounds = set_long _ h.laid.sound _ _ c.from_marks-set.ensures; array_len = h.whole }

pub returns-in_err-restored : goal.returns-in_err-restored
returns-in_err-restored c =
    let a = c.args in let h = checked-ready (goal.at.returns-in_err-restored c).In_ok-check_array in rw (passed_on _ _ c.from_residual-in_err-restored.ensures.1) (refuses a.geometry a.design.now a.marks.now a.array.now (fine (goal.at.returns-in_err-restored c).In_ok-check_array) _ _ (c.rebuild_lost.ensures a.marks.now (set_lost _ h.laid.sound _ _ c.from_marks-set.ensures)) _ c.in_err-restored.was)

pub returns : goal.returns
returns c =
    let a = c.args in let h = checked-ready (goal.at.returns c).In_ok-check_array in goes a.geometry a.design.now a.marks.now a.array.now (fine (goal.at.returns c).In_ok-check_array) _ _ (c.rebuild_lost.ensures a.marks.now (set_lost _ h.laid.sound _ _ c.from_marks-set.ensures)) _ c.in_ok-restored.was _ c.clear.ensures
