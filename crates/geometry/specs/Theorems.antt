-- What is proved of geometries: the statements alone. Assumes nothing.
use Rattle.std.specs.Prelude.{ℕ, ◌*◌, ◌%◌, ◌<◌, ◌≡◌, true}
use Rattle.geometry.specs.declared.Geometry.{Geometry}
use Rattle.geometry.specs.Geometry.{Sound, no_divisor_below, r_of, b_of, disks_of, units_of, bytes_of}

-- all that the layout needs of g and k: for 0 < d < k, i·d and j·d differ modulo g for different i, j < g, from this
-- alone, no e with 2 ≤ e < k divides g (02, Ask 5) [1 ≤ g, from i < g]
abbrev pub MultiplesDiffer : Type 0
MultiplesDiffer =
    (g k : ℕ) → no_divisor_below k g ≡ true → (d : ℕ) → 0 < d → d < k → (i j : ℕ) → i < g → j < g →
    (i * d) % g ≡ (j * d) % g → i ≡ j

-- 000, 3.3: "bk = vr"
abbrev pub TuplesAndParts : Type 0
TuplesAndParts = (G : Geometry) → Sound G → b_of G.v G.k * G.k ≡ G.v * r_of G.v G.k

-- "The buffer holds disk 0 whole, then disk 1, and so on": the array is the disks' units of u bytes
abbrev pub TheArrayIsItsUnits : Type 0
TheArrayIsItsUnits = (G : Geometry) → bytes_of G ≡ disks_of G * units_of G * G.u
