-- `sources::plan_set` meets its contract. Assumes nothing.
use mathlib.Core.Path.{ap, ◌∙◌}
use Rattle.sources.specs.Written.{triple_of}
use Rattle.sources.proofs.Sources.{own_member, other_member}
use Rattle.sources.proofs.Stored.{storing_none, storing_room, storing_more, written_none}
use Rattle.sources.proofs.plan_set.Goals as goal
use Rattle.sources.proofs.plan_set.Goals.{then-e-own, else-e-own}

pub loop-e-init : goal.loop-e-init
loop-e-init g c = storing_none _ _ _ c.requires.1.1

pub put-requires : goal.put-requires
put-requires g c =
    storing_room c.loop-e.invariant (triple_of c.args.unit.0 (g.place c.loop-e.e))
    (other_member g.place c.args.own c.args.unit.0 c.loop-e.e c.if-e-own.true)
    c.loop-e-test.true

pub loop-e-preserved : goal.loop-e-preserved
loop-e-preserved g c =
    let a = c.args in
    let s = c.loop-e.invariant in
    elim c.if-e-own.branch [
      | then-e-own w ↦
          rw w.triples-is
          (storing_more s {new = triple_of a.unit.0 w.source.result} w.put.ensures
          (ap (triple_of a.unit.0) (c.requires.1.0.is _ c.loop-e-test.true _ w.source.ensures)
          ∙ other_member g.place a.own a.unit.0 c.loop-e.e w.if-e-own.true))
      | else-e-own w ↦
          rw w.triples-is (storing_more s (written_none c.loop-e.triples) (own_member g.place a.own a.unit.0 c.loop-e.e w.if-e-own.false))
    ]
