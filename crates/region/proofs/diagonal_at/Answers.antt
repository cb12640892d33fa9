-- `region::diagonal_at` meets its contract. Assumes nothing.
use native.Mathlib.Nat.{mod-lt}
use mathlib.Core.Path.{refl}
use Rattle.region.specs.Columns.{diagonal_at}
use Rattle.region.proofs.diagonal_at.Goals as goal

pub returns : goal.returns
unfolding diagonal_at
returns c = (refl, mod-lt _ c.requires.small.g_low)
