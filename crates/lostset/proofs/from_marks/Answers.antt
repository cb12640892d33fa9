-- `lostset::from_marks` meets its contract: after each disk, the flags of the marks up to there. Assumes nothing.
use Rattle.std.proofs.Common.{arith, refl}
use Rattle.lostset.proofs.Sets.{marking_none, marking_more, marking_all}
use Rattle.lostset.proofs.from_marks.Goals as goal

pub loop-x-init : goal.loop-x-init
loop-x-init c = marking_none _ _ c.none-lost.ensures

pub loop-x-preserved : goal.loop-x-preserved
loop-x-preserved c = marking_more c.loop-x.invariant (omega arith) _ refl

pub returns : goal.returns
returns c = marking_all c.loop-x.invariant (omega arith)
