-- `mark_row`: the pairs of the first l groups with those behind them are counted. Assumes nothing.
use Rattle.std.proofs.Common.{arith}
use Rattle.checking.proofs.Marks.{row_to_next, row_to_all}
use Rattle.checking.proofs.pairs.mark_row.Goals as goal

pub loop-l-preserved : goal.loop-l-preserved
loop-l-preserved c = row_to_next _ _ _ _ _ _ c.loop-l.invariant c.loop-l-test.true c.mark_with.ensures

pub returns : goal.returns
returns c = row_to_all _ _ _ _ _ c.loop-l.invariant (omega arith)
