-- 01, "Refusal numbers", rows 9 and 10 in words, and the rows of the mapping both ways. Assumes nothing.
use Rattle.std.specs.Prelude.{ℕ, ◌≤◌, ◌≡◌, ◌⊎◌, List, [], ◌∷◌, ◌++◌}
use Rattle.refusal.specs.Due.{Row, row}
use Rattle.geometry.specs.declared.Geometry.{Geometry}
use Rattle.geometry.specs.Geometry.{disks_of, units_of, user_units_of}
use Rattle.sizes.specs.Reasons.{sizes_rows}

-- rows 2 to 6 and 10, "user unit number too high": numbers run from 0
abbrev pub map_rows : Geometry → List ℕ → (n : ℕ) → List Row
map_rows G d n = sizes_rows G d ++ (row 10 (λ (p : ℕ). (p ≡ 0) × (user_units_of G ≤ n)) ∷ [])

-- rows 2 to 6 and 9, "disk or unit number too high"
abbrev pub role_rows : Geometry → List ℕ → (x y : ℕ) → List Row
role_rows G d x y = sizes_rows G d ++ (row 9 (λ (p : ℕ). (p ≡ 0) × ((disks_of G ≤ x) ⊎ (units_of G ≤ y))) ∷ [])
