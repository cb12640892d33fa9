-- `array::start_of` meets its contract. Assumes nothing.
use mathlib.Core.Path.{refl}
use native.Mathlib.Omega.{arith}
use Rattle.geometry.proofs.Laws.{bytes_bound}
use Rattle.array.specs.Array.{start_of}
use Rattle.array.proofs.Starts.{unit_number_bound, start_in}
use Rattle.array.proofs.start_of.Goals as goal

pub overflow_mul-unit : goal.overflow_mul-unit
overflow_mul-unit c =
    rw c.units.ensures (omega (arith, unit_number_bound _ c.requires.sound _ c.requires.place_in))

pub overflow_add-unit : goal.overflow_add-unit
overflow_add-unit c =
    rw c.units.ensures (omega (arith, unit_number_bound _ c.requires.sound _ c.requires.place_in))

pub overflow_mul-result : goal.overflow_mul-result
unfolding start_of
overflow_mul-result c =
    rw c.units.ensures (omega (arith, start_in _ _ c.requires.place_in, bytes_bound _ c.requires.sound))

pub returns : goal.returns
unfolding start_of
returns c =
    rw c.units.ensures (refl, start_in _ _ c.requires.place_in)
