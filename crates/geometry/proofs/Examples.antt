-- The sizes that 01 gives, computed from the definitions: F ("21 disks of 9 units, 84 user units, 105 sets"), the smallest
-- geometry ("4 disks of 2 units, 2 user units"), and the largest, whose bytes do not fit 32 bits. Assumes nothing.
use Prim.Native.Nat.{ℕ}
use mathlib.Core.Path.{◌≡◌, refl}
use mathlib.Core.Bool.{true, false}
use mathlib.Core.List.{List, [], ◌∷◌}
use Rattle.counting.specs.Counting.{lowest}
use Rattle.geometry.specs.declared.Geometry.{Geometry}
use Rattle.geometry.specs.Geometry.{r_of, b_of, no_divisor_below, sizes_allowed, disks_of, units_of, user_units_of, tuple_sets_of, sets_of, bytes_of}

abbrev geometry : (v k g u : ℕ) → Geometry
geometry v k g u = record { v = v; k = k; g = g; u = u }

-- disks, units of a disk, user units, sets, bytes
abbrev sizes : Geometry → List ℕ
sizes G = disks_of G ∷ units_of G ∷ user_units_of G ∷ sets_of G ∷ bytes_of G ∷ []

sizes_of_F : sizes (geometry 7 3 3 1) ≡ 21 ∷ 9 ∷ 84 ∷ 105 ∷ 189 ∷ []
unfolding disks_of units_of user_units_of sets_of tuple_sets_of bytes_of r_of b_of
sizes_of_F = refl

sizes_of_smallest : sizes (geometry 2 2 2 1) ≡ 4 ∷ 2 ∷ 2 ∷ 6 ∷ 8 ∷ []
unfolding disks_of units_of user_units_of sets_of tuple_sets_of bytes_of r_of b_of
sizes_of_smallest = refl

sizes_of_largest : sizes (geometry 91 2 13 4096) ≡ 1183 ∷ 1170 ∷ 638820 ∷ 745290 ∷ 5669314560 ∷ []
unfolding disks_of units_of user_units_of sets_of tuple_sets_of bytes_of r_of b_of
sizes_of_largest = refl

-- example 11: g = 9 is no prime, though no e below 3 divides it
nine_refused : sizes_allowed 3 9 1 ≡ false
unfolding sizes_allowed no_divisor_below lowest
nine_refused = refl

thirteen_allowed : sizes_allowed 10 13 4096 ≡ true
unfolding sizes_allowed no_divisor_below lowest
thirteen_allowed = refl
