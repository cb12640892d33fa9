-- Figure 4 of 000, computed of the definitions. Assumes nothing.
use mathlib.Core.Path.{refl}
use Rattle.counting.specs.Lists.{list_of}
use Rattle.geometry.specs.Geometry.{tuple_sets_of}
use Rattle.region.specs.Columns.{label_column, label_at, diagonal_at}
use Rattle.numbering.specs.Positions.{parity_position, data_position, data_number}
use Rattle.numbering.specs.Numbering.{user_number, user_column, user_row, user_region, user_tuple, outer_number, inner_number}
use Rattle.cells.specs.Roles.{user_cell, role_of, cell_of}
use Rattle.cells.specs.Figure.{LastTuple}

pub last_tuple : LastTuple
unfolding label_column label_at diagonal_at parity_position data_position data_number user_number user_column user_row user_region user_tuple user_cell role_of cell_of list_of tuple_sets_of outer_number inner_number
last_tuple =
    record {
      row_0_0 = (refl, refl);
      row_0_1 = (refl, refl);
      row_0_2 = (refl, refl);
      row_1_0 = (refl, refl);
      row_1_1 = (refl, refl);
      row_1_2 = (refl, refl);
      row_2_0 = (refl, refl);
      row_2_1 = (refl, refl);
      row_2_2 = (refl, refl);
      outer_sets = refl;
      inner_sets = refl;
    }
