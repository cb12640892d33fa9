-- `region::label_at` meets its contract. Assumes nothing.
use native.Mathlib.Nat.{mod-lt}
use mathlib.Core.Path.{refl}
use Rattle.region.specs.Columns.{label_at}
use Rattle.region.proofs.label_at.Goals as goal

pub returns : goal.returns
unfolding label_at
returns c = (refl, mod-lt _ c.requires.small.g_low)
