-- The statements of specs/Theorems.antt hold. Assumes nothing.
use native.Mathlib.Nat.{mul_assoc}
use Rattle.geometry.specs.Geometry.{disks_of, units_of, bytes_of}
use Rattle.geometry.specs.Theorems.{TuplesAndParts, TheArrayIsItsUnits}
use Rattle.geometry.proofs.Laws.{bk_vr}
pub use Rattle.geometry.proofs.Multiples.{multiples_differ}

pub tuples_and_parts : TuplesAndParts
tuples_and_parts = bk_vr

pub the_array_is_its_units : TheArrayIsItsUnits
unfolding disks_of units_of bytes_of
the_array_is_its_units G = simp mul_assoc
