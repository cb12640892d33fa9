-- `sets::region_starts` meets its contract. Assumes nothing.
use native.Mathlib.Omega.{arith}
use Rattle.sets.proofs.Loops.{regions_none, regions_more}
use Rattle.sets.proofs.region_starts.Goals as goal

pub loop-l-init : goal.loop-l-init
loop-l-init c = regions_none _ _ _ _ c.requires.1

pub loop-l-preserved : goal.loop-l-preserved
loop-l-preserved c = regions_more _ _ _ _ _ _ c.requires.1 c.loop-l.invariant (omega arith) _ c.region_start.ensures
