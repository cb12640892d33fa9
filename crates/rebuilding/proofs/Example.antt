-- The examples are computed. Assumes nothing.
use mathlib.Core.Path.{refl}
use Rattle.counting.specs.Counting.{count_below, lowest}
use Rattle.counting.specs.Lists.{list_of}
use Rattle.leaves.specs.Bytes.{laid, sum_at, sums}
use Rattle.geometry.specs.Geometry.{r_of, b_of, units_of, tuples_of}
use Rattle.design.specs.Design.{group_at, names}
use Rattle.region.specs.Columns.{label_column, label_at, diagonal_column, diagonal_at}
use Rattle.layout.specs.Regions.{part_of}
use Rattle.layout.specs.Places.{place_of}
use Rattle.layout.specs.Marks.{lost}
use Rattle.array.specs.Array.{start_of, cell_start}
use Rattle.peeling.specs.Peeling.{lacks_only, restored, present_after, tried, visit, sweep, passes, peeled}
use Rattle.reaching.specs.Reach.{tuple_cells_of, number_of, cell_numbered, outer_side, inner_side, sides_of, here_of, steps_of, incomplete}
use Rattle.restoring.specs.Restore.{stored, restored_in}
use Rattle.replaying.specs.Replay.{side_starts, step_bytes, replayed}
use Rattle.rebuilding.specs.Rebuild.{rebuilt_below, rebuilt_of, restored_below, restored_of}
use Rattle.rebuilding.specs.Example.{Rebuilds}

pub rebuilds : Rebuilds
unfolding count_below lowest list_of laid sum_at sums r_of b_of units_of tuples_of group_at names label_column label_at diagonal_column diagonal_at part_of place_of lost start_of cell_start lacks_only restored present_after tried visit sweep passes peeled tuple_cells_of number_of cell_numbered outer_side inner_side sides_of here_of steps_of incomplete stored restored_in side_starts step_bytes replayed rebuilt_below rebuilt_of restored_below restored_of
rebuilds = record { none = refl; four = refl; stuck = refl; bytes = refl }
