-- `region::column_of_diagonal` meets its contract. Assumes nothing.
use native.Mathlib.Nat.{mod-lt}
use mathlib.Core.Path.{refl}
use Rattle.region.specs.Columns.{diagonal_column}
use Rattle.region.proofs.column_of_diagonal.Goals as goal

pub returns : goal.returns
unfolding diagonal_column
returns c = (refl, mod-lt _ c.requires.small.g_low)
