-- `planning::regions_of` meets its contract. Assumes nothing.
use native.Mathlib.Omega.{arith}
use Rattle.planning.proofs.Taken.{taken_more, taken_all}
use Rattle.planning.proofs.regions_of.Goals as goal

pub loop-e-preserved : goal.loop-e-preserved
loop-e-preserved c = taken_more _ _ _ _ _ c.loop-e.invariant (omega (arith, c.loop-e.auto.regions)) c.region_of.result c.region_of.ensures

pub returns : goal.returns
returns c = taken_all _ _ _ _ _ c.loop-e.invariant (omega (arith, c.loop-e.auto.regions)) c.loop-e-test.false
