-- `array::is_lost` meets its contract. Assumes nothing.
use mathlib.Core.Path.{refl}
use Rattle.layout.specs.Marks.{lost}
use Rattle.array.proofs.is_lost.Goals as goal

pub returns : goal.returns
unfolding lost
returns c = refl
