-- The theorems of specs/Theorems.antt, in its order. Assumes nothing.
use mathlib.Core.Path.{refl}
use native.Mathlib.Omega.{arith}
use Rattle.region.specs.Columns.{label_column}
use Rattle.region.specs.Theorems
use Rattle.region.proofs.Turns.{diagonal_column_lt, row_of_column, parity_column_lem}
pub use Rattle.region.proofs.Meets.{two_labels_meet_once}

pub the_column_of_a_label : Theorems.TheColumnOfALabel
unfolding label_column
the_column_of_a_label g l i c = refl

pub the_columns_of_a_diagonal : Theorems.TheColumnsOfADiagonal
the_columns_of_a_diagonal g i j h q =
    record { low = diagonal_column_lt g j i (omega arith); turned = row_of_column g j i (omega arith) h }

pub the_parity_is_on_its_diagonal : Theorems.TheParityIsOnItsDiagonal
the_parity_is_on_its_diagonal g j h = (refl, parity_column_lem g j h)
