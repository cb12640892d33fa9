-- `reaching::sweep` meets its contract: after n visits, the state is that of the first n cells. Assumes nothing.
use native.Mathlib.Omega.{arith}
use Rattle.reaching.proofs.Turns.{sweeping_none, sweeping_more}
use Rattle.reaching.proofs.sweep.Goals as goal

pub loop-n-init : goal.loop-n-init
loop-n-init c = sweeping_none _ _ _ c.requires.room

pub loop-n-preserved : goal.loop-n-preserved
loop-n-preserved c = sweeping_more _ _ _ _ _ c.loop-n.invariant _ (omega (arith, c.requires.room.flags)) c.visit-entries.ensures
