-- `sets::disk_bytes` meets its contract. Assumes nothing.
use mathlib.Core.Path.{refl}
use Rattle.sets.specs.Starts.{disk_bytes}
use Rattle.sets.proofs.disk_bytes.Goals as goal

pub returns : goal.returns
unfolding disk_bytes
returns c = rw c.units.ensures refl
