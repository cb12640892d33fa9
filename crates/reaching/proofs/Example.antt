-- 01's examples 7 and 8 and the order of trial are computed. Assumes nothing.
use mathlib.Core.Path.{refl}
use Rattle.counting.specs.Counting.{count_below, lowest}
use Rattle.counting.specs.Lists.{list_of}
use Rattle.geometry.specs.Geometry.{r_of, b_of, units_of, tuples_of}
use Rattle.design.specs.Design.{group_at, names}
use Rattle.region.specs.Columns.{label_column, label_at, diagonal_column, diagonal_at}
use Rattle.layout.specs.Regions.{part_of}
use Rattle.layout.specs.Places.{place_of}
use Rattle.layout.specs.Marks.{lost}
use Rattle.peeling.specs.Peeling.{lacks_only, restored, present_after, tried, visit, sweep, passes, peeled}
use Rattle.reaching.specs.Reach.{tuple_cells_of, number_of, cell_numbered, outer_side, inner_side, sides_of, here_of, steps_of, incomplete}
use Rattle.reaching.specs.Example.{LostDisks}

pub lost_disks : LostDisks
unfolding count_below lowest list_of r_of b_of units_of tuples_of group_at names label_column label_at diagonal_column diagonal_at part_of place_of lost lacks_only restored present_after tried visit sweep passes peeled tuple_cells_of number_of cell_numbered outer_side inner_side sides_of here_of steps_of incomplete
lost_disks = record { restored = refl; complete = refl; stuck = refl; trial = refl }
