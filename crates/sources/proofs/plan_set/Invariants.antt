-- `sources::plan_set` meets its contract. Assumes nothing.
use Rattle.sources.specs.Written.{member_triples}
use Rattle.sources.proofs.Stored.{Storing}
use Rattle.sources.proofs.plan_set.Given as goal

abbrev pub invariant-loop-e : goal.invariant-loop-e
invariant-loop-e g l = Storing (member_triples g.place l.own l.unit.0) l.members l.initial.triples l.triples l.e
