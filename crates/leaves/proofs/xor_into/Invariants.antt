-- `leaves::xor_into` meets its contract. Assumes nothing.
use Rattle.leaves.specs.Bytes.{xors}
use Rattle.leaves.proofs.Filled.{Filled}
use Rattle.leaves.proofs.xor_into.Given as goal

abbrev pub invariant-loop-i : goal.invariant-loop-i
invariant-loop-i l = Filled l.initial.dst (xors l.initial.dst l.src) l.dst l.i
