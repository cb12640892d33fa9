-- `first_bad_in`: no number of the first a lines is a bad pair. Assumes nothing.
use Rattle.checking.proofs.Entries.{LinesGood}
use Rattle.checking.proofs.pairs.first_bad_in.Given as goal

abbrev pub invariant-loop-a : goal.invariant-loop-a
invariant-loop-a l = LinesGood l.v l.table l.a
