-- The theorem of the plan. Assumes nothing.
use Rattle.sources.specs.Theorems.{ThePlanHasAsManyTriples}
use Rattle.sources.proofs.Lengths.{plan_length}

pub the_plan_has_as_many_triples : ThePlanHasAsManyTriples
the_plan_has_as_many_triples = plan_length
