-- Figure 4 of 000, computed of the definitions. Assumes nothing.
use mathlib.Core.Path.{refl}
use Rattle.counting.specs.Lists.{list_of}
use Rattle.region.specs.Columns.{label_at, diagonal_column, diagonal_at}
use Rattle.region.specs.Figure.{Figure4}

pub figure_4 : Figure4
unfolding list_of label_at diagonal_column diagonal_at
figure_4 = record { region_0 = refl; region_1 = refl; region_2 = refl; P0 = refl; P1 = refl; P2 = refl }
