-- The cases of the positions, one law for each, and the user numbering digit by digit. Assumes nothing.
use Prim.Native.Nat.{ℕ, ◌+◌, ◌-◌, ◌*◌, ◌≤◌, ◌<◌}
use mathlib.Core.Path.{◌≡◌}
use native.Mathlib.Numerals.{add-one, sub-one}
use borrow.Author.Tests.{lt-ltb, le-ltb}
use Rattle.geometry.specs.declared.Geometry.{Geometry}
use Rattle.numbering.specs.Positions.{parity_position, data_position, data_number}
use Rattle.numbering.specs.Numbering.{user_number}

pub position_below : (G : Geometry) (t m : ℕ) → m < parity_position G t → m ≡ data_position G t m
unfolding data_position
position_below G t m h = rw (lt-ltb m (parity_position G t) h)

pub position_above : (G : Geometry) (t m : ℕ) → parity_position G t ≤ m → m + 1 ≡ data_position G t m
unfolding data_position
position_above G t m h = rw (le-ltb m (parity_position G t) h, add-one)

pub number_below : (G : Geometry) (t l : ℕ) → l < parity_position G t → l ≡ data_number G t l
unfolding data_number
number_below G t l h = rw (lt-ltb l (parity_position G t) h)

pub number_above : (G : Geometry) (t l : ℕ) → parity_position G t ≤ l → l - 1 ≡ data_number G t l
unfolding data_number
number_above G t l h = rw (le-ltb l (parity_position G t) h, sub-one)

pub number_of : (G : Geometry) (t l i c a b r : ℕ) → a ≡ t * (G.k - 1) + l → b ≡ a * (G.g - 1) + i → r ≡ b * G.g + c
    → r ≡ user_number G t l i c
unfolding user_number
number_of G t l i c a b r p q e = rw (e, q, p)
