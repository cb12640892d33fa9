-- `planning::plan_rows` meets its contract. Assumes nothing.
use Rattle.sources.specs.Written.{in_hand, row_triples}
use Rattle.sources.proofs.Stored.{Storing}
use Rattle.planning.proofs.plan_rows.Given as goal

abbrev pub invariant-loop-row : goal.invariant-loop-row
invariant-loop-row l =
    Storing (row_triples l.geometry (in_hand l.regions) l.first.0 l.at) l.geometry.g l.initial.triples l.triples l.row
