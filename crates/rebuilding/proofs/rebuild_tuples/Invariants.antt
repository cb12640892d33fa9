-- `rebuilding::rebuild_tuples` meets its contract: the tuples so far are rebuilt. Assumes nothing.
use Rattle.rebuilding.proofs.Phases.{Restoring}
use Rattle.rebuilding.proofs.rebuild_tuples.Given as goal

abbrev pub invariant-loop-t : goal.invariant-loop-t
invariant-loop-t l = Restoring l.layout.geometry l.layout.design.now l.lost l.initial.array l.flags l.log l.array l.count l.t
