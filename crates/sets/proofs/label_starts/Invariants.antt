-- `sets::label_starts` meets its contract. Assumes nothing.
use Rattle.sets.proofs.Loops.{Labels}
use Rattle.sets.proofs.label_starts.Given as goal

abbrev pub invariant-loop-l : goal.invariant-loop-l
invariant-loop-l l = Labels l.geometry l.regions l.row l.column l.initial.starts l.starts l.x l.l
