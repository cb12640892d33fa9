-- 01, "Refusal numbers" for the mapping both ways: rows 2 to 6 and 10, rows 2 to 6 and 9. Assumes nothing.
use Rattle.std.specs.Prelude.{ℕ, ◌||◌, List, [], ◌∷◌, ◌++◌, leb}
use Rattle.refusal.specs.Refusal.{Rule, rule}
use Rattle.geometry.specs.declared.Geometry.{Geometry}
use Rattle.geometry.specs.Geometry.{disks_of, units_of, user_units_of}
use Rattle.sizes.specs.Sizes.{sizes_rules}

-- "user unit number too high" is 10
unfoldable pub map_rules : Geometry → List ℕ → ℕ → List Rule
map_rules G d n = sizes_rules G d ++ (rule 10 (leb (user_units_of G) n) 0 ∷ [])

-- "disk or unit number too high" is 9
unfoldable pub role_rules : Geometry → List ℕ → (x y : ℕ) → List Rule
role_rules G d x y = sizes_rules G d ++ (rule 9 (leb (disks_of G) x || leb (units_of G) y) 0 ∷ [])
