-- `printer::read_line` meets its contract. Assumes nothing.
use Rattle.std.proofs.Common.{arith}
use Rattle.printer.proofs.read_line.Goals as goal

-- the search finds it too; it stands here so that a wrong count is refused by it
pub loop-preserved : goal.loop-preserved
loop-preserved g c = omega (arith, c.loop.invariant, c.in_ok-more.ensures.bound.0)
