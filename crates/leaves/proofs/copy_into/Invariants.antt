-- `leaves::copy_into` meets its contract. Assumes nothing.
use Rattle.leaves.proofs.Filled.{Filled}
use Rattle.leaves.proofs.copy_into.Given as goal

abbrev pub invariant-loop-i : goal.invariant-loop-i
invariant-loop-i l = Filled l.initial.dst l.src l.dst l.i
