-- 01's example of the plan is computed. Assumes nothing.
use mathlib.Core.Path.{refl}
use Rattle.region.specs.Columns.{label_column, label_at, diagonal_column, diagonal_at}
use Rattle.design.specs.Design.{group_at, names}
use Rattle.geometry.specs.Geometry.{r_of, b_of, units_of, tuples_of}
use Rattle.counting.specs.Counting.{count_below, lowest}
use Rattle.layout.specs.Regions.{part_of, tuple_of, position_of}
use Rattle.layout.specs.Places.{place_of, cell_at}
use Rattle.sources.specs.Plan.{lists_of, unit_plan, plan_below, plan_of}
use Rattle.sources.specs.Example.{Printed}

pub printed : Printed
unfolding label_column label_at diagonal_column diagonal_at group_at names r_of b_of units_of tuples_of count_below lowest part_of tuple_of position_of place_of cell_at lists_of unit_plan plan_below plan_of
printed = refl
