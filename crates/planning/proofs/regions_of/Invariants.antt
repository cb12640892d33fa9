-- `planning::regions_of` meets its contract. Assumes nothing.
use Rattle.planning.proofs.Taken.{Taken}
use Rattle.planning.proofs.regions_of.Given as goal

abbrev pub invariant-loop-e : goal.invariant-loop-e
invariant-loop-e l = Taken l.layout.geometry l.layout.design.now l.tuple.0 l.regions l.e
