-- `region::column_of_label` meets its contract. Assumes nothing.
use native.Mathlib.Nat.{mod-lt}
use mathlib.Core.Path.{refl}
use Rattle.region.specs.Columns.{label_column}
use Rattle.region.proofs.column_of_label.Goals as goal

pub returns : goal.returns
unfolding label_column
returns c = (refl, mod-lt _ c.requires.g_low)
