-- 01, "The two parities": where a tuple's outer parity stands, and its data regions. Assumes nothing.
use Rattle.std.specs.Prelude.{ℕ, suc, pred, ◌-◌, cond, ltb}
use Rattle.geometry.specs.declared.Geometry.{Geometry}

-- "The unit at position k-1 is its parity" [for 1 ≤ k]: the one definition of where a tuple's outer parity stands
unfoldable pub parity_position : Geometry → (t : ℕ) → ℕ
parity_position G t = G.k - 1

-- the position of a tuple's m-th data region: positions other than the parity's, counted upwards
unfoldable pub data_position : Geometry → (t m : ℕ) → ℕ
data_position G t m = cond (ltb m (parity_position G t)) m (suc m)

-- which data region stands at position l, other than the parity's [the one before l only where l is above the parity's]
unfoldable pub data_number : Geometry → (t l : ℕ) → ℕ
data_number G t l = cond (ltb l (parity_position G t)) l (pred l)
