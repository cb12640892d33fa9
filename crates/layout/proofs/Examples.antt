-- Figure 4 of 000, computed of the definitions. Assumes nothing.
use mathlib.Core.Path.{refl}
use Rattle.counting.specs.Counting.{count_below, lowest}
use Rattle.geometry.specs.Geometry.{b_of, tuples_of}
use Rattle.design.specs.Design.{group_at, names}
use Rattle.region.specs.Columns.{label_column, diagonal_at}
use Rattle.numbering.specs.Positions.{parity_position, data_position}
use Rattle.numbering.specs.Numbering.{user_column, user_row, user_region, user_tuple}
use Rattle.cells.specs.Roles.{user_cell, user_outer, inner_of}
use Rattle.layout.specs.Regions.{part_of, tuple_of, position_of}
use Rattle.layout.specs.Places.{place_of, cell_at, four_of}
use Rattle.layout.specs.Figure.{Figure4}

pub figure_4 : Figure4
unfolding count_below lowest b_of tuples_of group_at names label_column diagonal_at parity_position data_position user_column user_row user_region user_tuple user_cell user_outer inner_of part_of tuple_of position_of place_of cell_at four_of
figure_4 = record { tuple_0 = refl; tuple_1 = refl; back = refl; four = refl }
