-- `sources::plan_unit` meets its contract: where the members lie, by what the closures hold. Assumes nothing.
use Rattle.sources.specs.Written.{in_hand, outer_source, inner_source}
use Rattle.sources.proofs.plan_unit.Given as goal

abbrev pub ghost-plan_set : goal.ghost-plan_set
ghost-plan_set a = let s = a.source in outer_source s.0 (in_hand s.1.now) s.2 s.3

abbrev pub ghost-plan_set-2 : goal.ghost-plan_set-2
ghost-plan_set-2 a = let s = a.source in inner_source s.0 s.1 s.2
