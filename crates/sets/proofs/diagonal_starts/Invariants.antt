-- `sets::diagonal_starts` meets its contract. Assumes nothing.
use Rattle.sets.proofs.Loops.{Diagonals}
use Rattle.sets.proofs.diagonal_starts.Given as goal

abbrev pub invariant-loop-i : goal.invariant-loop-i
invariant-loop-i l = Diagonals l.geometry l.start l.diagonal l.initial.starts l.starts l.x l.i
