-- `sets::region_starts` meets its contract. Assumes nothing.
use Rattle.leaves.proofs.Filled.{Filled}
use Rattle.sets.specs.Starts.{region_starts}
use Rattle.sets.proofs.region_starts.Given as goal

abbrev pub invariant-loop-l : goal.invariant-loop-l
invariant-loop-l l = Filled l.initial.starts (region_starts l.layout.geometry l.layout.design.now l.tuple.0) l.starts l.l
