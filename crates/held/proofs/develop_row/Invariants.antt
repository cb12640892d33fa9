-- `held::develop_row` meets its contract. The loop's invariant: the first l entries are the row's, the rest are the old ones.
-- Assumes nothing.
use Rattle.held.specs.Held.{held_group}
use Rattle.held.proofs.Filling.{Filled}
use Rattle.held.proofs.develop_row.Given as goal

abbrev pub invariant-loop-l : goal.invariant-loop-l
invariant-loop-l l = Filled (held_group l.v l.set l.i) l.initial.row l.l l.row
