-- `lostset::from_marks` meets its contract: after each disk, the flags of the marks up to there. Assumes nothing.
use Rattle.lostset.proofs.Sets.{Marking}
use Rattle.lostset.proofs.from_marks.Given as goal

abbrev pub invariant-loop-x : goal.invariant-loop-x
invariant-loop-x l = Marking l.marks l.lost.flags l.x
