-- `planning::plan_part` meets its contract. Assumes nothing.
use Prim.Native.Nat.{◌*◌, ◌<◌}
use mathlib.Core.Path.{◌≡◌, sym}
use native.Mathlib.Omega.{arith}
use Rattle.geometry.specs.Geometry.{units_of}
use Rattle.geometry.proofs.Laws.{units_bound}
use Rattle.sources.specs.Plan.{lists_of}
use Rattle.sources.specs.Written.{in_hand, row_triples, part_plan}
use Rattle.sources.proofs.Same.{first_unit, part_found}
use Rattle.planning.proofs.plan_part.Goals as goal
use Rattle.planning.proofs.plan_part.Goals.{Start, After-regions_of}

-- the part's first unit is one of the disk's
low : (c : Start) → c.args.part.0 * c.args.layout.now.geometry.g < units_of c.args.layout.now.geometry
low c =
    let a = c.args in
    let p = c.requires.disk_bound in
    first_unit a.layout.now.geometry a.layout.now.design.now a.layout.now.laid a.disk.0 a.part.0 p.0 p.1

pub overflow_mul-first : goal.overflow_mul-first
overflow_mul-first c = omega (arith, low (goal.at.overflow_mul-first c).Start, units_bound c.args.layout.now.geometry c.args.layout.now.laid.sound)

pub cell_at-at-requires : goal.cell_at-at-requires
cell_at-at-requires c = (c.requires.disk_bound.0, low (goal.at.cell_at-at-requires c).Start)

pub plan_rows-requires-clause-sound : goal.plan_rows-requires-clause-sound
plan_rows-requires-clause-sound c =
    let laid = c.args.layout.now.laid in
    let first = low (goal.at.plan_rows-requires-clause-sound c).Start in
    (laid.sound, c.regions_of.ensures.0, c.cell_at-at.ensures.1, omega (arith, first, units_bound c.args.layout.now.geometry laid.sound))

-- what its rows store is the part's plan
same :
    (c : After-regions_of) →
    let a = c.args in
    lists_of (row_triples a.layout.now.geometry (in_hand c.regions_of.new.regions) (a.part.0 * a.layout.now.geometry.g) c.cell_at-at.result) a.layout.now.geometry.g
    ≡ part_plan a.layout.now.geometry a.layout.now.design.now a.disk.0 a.part.0
same c =
    let a = c.args in
    let p = c.requires.disk_bound in
    part_found a.layout.now.geometry a.layout.now.design.now a.layout.now.laid a.disk.0 a.part.0 p.0 p.1 c.cell_at-at.result c.cell_at-at.ensures.0
    c.regions_of.new.regions c.regions_of.ensures.1

pub plan_rows-requires-clause-g_in_bounds : goal.plan_rows-requires-clause-g_in_bounds
plan_rows-requires-clause-g_in_bounds c =
    rw (same (goal.at.plan_rows-requires-clause-g_in_bounds c).After-regions_of) c.requires.part_in_bounds

pub returns : goal.returns
returns c = rw (sym (same (goal.at.returns c).After-regions_of)) c.plan_rows.ensures
