-- `fourfold::add_at_four` meets its contract: after each start, the bytes are added at the starts up to there. Assumes nothing.
use mathlib.Core.Path.{sym}
use native.Mathlib.Omega.{arith}
use Rattle.leaves.proofs.Runs.{add_all_none, add_all_more}
use Rattle.fourfold.proofs.add_at_four.Goals as goal

pub loop-start-init : goal.loop-start-init
loop-start-init c = sym (add_all_none _ _)

pub loop-start-preserved : goal.loop-start-preserved
loop-start-preserved c = add_all_more _ _ _ _ _ (omega arith) c.loop-start.invariant c.add_run.ensures
