-- `printer::read_line`: the bytes that came are within the line. Assumes nothing.
use Rattle.std.proofs.Common.{◌≤◌, length}
use Rattle.printer.proofs.read_line.Given as goal

abbrev pub invariant-loop : goal.invariant-loop
invariant-loop g l = l.n ≤ length l.line
