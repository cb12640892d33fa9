-- `held::develop_row` meets its contract. Assumes nothing.
use Rattle.std.proofs.Common.{arith}
use Rattle.held.proofs.Filling.{filled_none, filled_more}
use Rattle.held.proofs.develop_row.Goals as goal

pub loop-l-init : goal.loop-l-init
loop-l-init c = filled_none _ _

pub loop-l-preserved : goal.loop-l-preserved
loop-l-preserved c = filled_more _ _ _ _ _ (omega arith) c.group_of.ensures c.loop-l.invariant
