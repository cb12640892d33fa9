-- The examples of one lost disk are computed. Assumes nothing.
use mathlib.Core.Path.{refl}
use Rattle.counting.specs.Counting.{count_below, lowest}
use Rattle.counting.specs.Lists.{list_of}
use Rattle.geometry.specs.Geometry.{r_of, b_of, units_of, tuples_of}
use Rattle.design.specs.Design.{group_at, names}
use Rattle.region.specs.Columns.{label_column, label_at, diagonal_column, diagonal_at}
use Rattle.layout.specs.Regions.{part_of, tuple_of, position_of}
use Rattle.layout.specs.Places.{place_of, cell_at}
use Rattle.reaching.specs.Reach.{number_of, outer_side, inner_side}
use Rattle.sources.specs.Plan.{lists_of, unit_plan, plan_below, plan_of}
use Rattle.onedisk.specs.OneDisk.{first_side, column_steps, disk_steps}
use Rattle.onedisk.specs.Sources.{triples_in, count_in}
use Rattle.onedisk.specs.Example.{OneDisk}

pub one_disk : OneDisk
unfolding count_below lowest list_of r_of b_of units_of tuples_of group_at names label_column label_at diagonal_column diagonal_at part_of tuple_of position_of place_of cell_at number_of outer_side inner_side lists_of unit_plan plan_below plan_of first_side column_steps disk_steps triples_in count_in
one_disk = record { gives = refl; parts = refl; cells = refl; owns = refl; other = refl }
