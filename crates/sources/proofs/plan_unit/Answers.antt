-- `sources::plan_unit` meets its contract. Assumes nothing.
use Rattle.std.proofs.Common.{rules}
use Rattle.sources.specs.Written.{in_hand}
use Rattle.sources.proofs.Sources.{unit_outer, unit_inner}
use Rattle.sources.proofs.plan_unit.Goals as goal

pub plan_set-requires-whole : goal.plan_set-requires-whole
plan_set-requires-whole c κs =
    let a = c.args in
    let same =
    unit_outer a.geometry (in_hand a.regions.now) a.unit.0 a.at c.label_at-column.result c.label_at-column.ensures.0
    c.if-row-geometry.true
    in
    (search rules, (search rules, rw same at c.requires.at_in_bounds))

pub returns-then-row-geometry : goal.returns-then-row-geometry
returns-then-row-geometry c =
    let a = c.args in
    rw (unit_outer a.geometry _ a.unit.0 a.at _ c.label_at-column.ensures.0 c.if-row-geometry.true) c.plan_set.ensures

pub plan_set-requires-2-whole : goal.plan_set-requires-2-whole
plan_set-requires-2-whole c κs =
    let a = c.args in
    let same =
    unit_inner a.geometry (in_hand a.regions.now) a.unit.0 a.at c.diagonal_at-diagonal.result c.diagonal_at-diagonal.ensures.0
    c.if-row-geometry.false
    in
    (search rules, (search rules, rw same at c.requires.at_in_bounds))

pub returns : goal.returns
returns c =
    let a = c.args in
    rw (unit_inner a.geometry _ a.unit.0 a.at _ c.diagonal_at-diagonal.ensures.0 c.if-row-geometry.false)
    c.plan_set-2.ensures
