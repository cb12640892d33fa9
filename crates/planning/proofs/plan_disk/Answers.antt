-- `planning::plan_disk` meets its contract. Assumes nothing.
use mathlib.Core.Path.{◌≡◌, refl, ap, ◌∙◌}
use Rattle.std.proofs.Common.{rules}
use Rattle.sources.specs.Plan.{plan_of}
use native.Mathlib.Omega.{arith}
use lib.Seq.{sets}
use Rattle.sources.proofs.Same.{parts_are_the_plan}
use Rattle.sources.proofs.Stored.{storing_none, storing_room, storing_more, storing_all}
use Rattle.planning.proofs.plan_disk.Goals as goal

pub loop-p-init : goal.loop-p-init
loop-p-init c =
    let a = c.args in
    storing_none _ _ _ (rw (parts_are_the_plan a.layout.now.geometry a.layout.now.design.now a.disk.0) (omega (arith, c.requires.disk_in_bounds)))

pub plan_part-requires-clause-part_in_bounds : goal.plan_part-requires-clause-part_in_bounds
plan_part-requires-clause-part_in_bounds c = storing_room c.loop-p.invariant _ refl (omega arith)

pub loop-p-preserved : goal.loop-p-preserved
loop-p-preserved c = storing_more c.loop-p.invariant c.plan_part.ensures refl

pub returns : goal.returns
returns c =
    let a = c.args in
    let w = storing_all c.loop-p.invariant (omega (arith, c.loop-p-test.false, c.loop-p.auto.p-end, c.parts-p-end.ensures)) in
    let all : c.loop-p.triples.list.now ≡ sets a.list.now 0 (plan_of a.layout.now.geometry a.layout.now.design.now a.disk.0) =
    w.is ∙ ap (sets a.list.now 0) (parts_are_the_plan a.layout.now.geometry a.layout.now.design.now a.disk.0)
    in
    let lent = w.lent in
    search rules
