-- `planning::plan_rows` meets its contract. Assumes nothing.
use mathlib.Core.Path.{refl}
use Rattle.sources.proofs.Stored.{storing_none, storing_room, storing_more}
use Rattle.planning.proofs.plan_rows.Goals as goal

pub loop-row-init : goal.loop-row-init
loop-row-init c = storing_none _ _ _ c.requires.g_in_bounds

pub plan_unit-requires-clause-at_in_bounds : goal.plan_unit-requires-clause-at_in_bounds
plan_unit-requires-clause-at_in_bounds c = storing_room c.loop-row.invariant _ refl c.loop-row-test.true

pub loop-row-preserved : goal.loop-row-preserved
loop-row-preserved c = storing_more c.loop-row.invariant c.plan_unit.ensures refl
