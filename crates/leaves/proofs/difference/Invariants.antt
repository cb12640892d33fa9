-- `leaves::difference` meets its contract. Assumes nothing.
use Rattle.leaves.specs.Bytes.{xors}
use Rattle.leaves.proofs.Filled.{Filled}
use Rattle.leaves.proofs.difference.Given as goal

abbrev pub invariant-loop-i : goal.invariant-loop-i
invariant-loop-i l = Filled l.initial.out (xors l.old l.new) l.out l.i
