-- `mark_row`: the pairs of the first l groups with those behind them are counted. Assumes nothing.
use Rattle.checking.proofs.Marks.{RowTo}
use Rattle.checking.proofs.pairs.mark_row.Given as goal

abbrev pub invariant-loop-l : goal.invariant-loop-l
invariant-loop-l l = RowTo l.v l.row l.l l.initial.table l.table
