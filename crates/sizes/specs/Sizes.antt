-- 01, "Refusal numbers", rows 2 to 6, and the sizes of an accepted geometry. Assumes nothing.
use Rattle.std.specs.Prelude.{ℕ, not, List, [], ◌∷◌, ◌++◌}
use Rattle.refusal.specs.Refusal.{Rule, rule}
use Rattle.geometry.specs.declared.Geometry.{Geometry}
use Rattle.geometry.specs.Geometry.{sizes_allowed, parts_of, tuples_of, disks_of, units_of, user_units_of, sets_of, bytes_of}
use Rattle.checking.specs.Rules.{design_rules}
use Rattle.sizes.specs.declared.Sizes.{Sizes}

-- rows 2 to 6: "g or u not allowed" is 6
unfoldable pub sizes_rules : Geometry → List ℕ → List Rule
sizes_rules G d =
    design_rules G.v G.k d ++ (rule 6 (not (sizes_allowed G.k G.g G.u)) 0 ∷ [])

-- the derived numbers, by name
unfoldable pub sizes_of : Geometry → Sizes
sizes_of G =
    record {
      parts = parts_of G;
      tuples = tuples_of G;
      disks = disks_of G;
      units = units_of G;
      users = user_units_of G;
      sets = sets_of G;
      bytes = bytes_of G;
    }
