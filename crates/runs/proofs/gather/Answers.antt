-- `runs::gather` meets its contract: after each source, the sum of the sources up to there. Assumes nothing.
use Rattle.runs.proofs.Gathered.{gathered_none, gathered_more}
use Rattle.runs.proofs.gather.Goals as goal

pub loop-start-init : goal.loop-start-init
loop-start-init c = gathered_none _ _ _

pub loop-start-preserved : goal.loop-start-preserved
loop-start-preserved c = gathered_more _ _ _ _ _ c.loop-start-test.true c.loop-start.invariant c.xor_into.ensures
