-- 01, "Calls" (plan): the lent list at return, and "Refusal numbers", rows 9 and 14 for the plan. Assumes nothing.
use Rattle.std.specs.Prelude.{ℕ, ◌-◌, ◌*◌, List, [], ◌∷◌, ◌++◌, ltb, leb, drop}
use Rattle.refusal.specs.Refusal.{Rule, rule}
use Rattle.geometry.specs.declared.Geometry.{Geometry}
use Rattle.geometry.specs.Geometry.{parts_of, disks_of}
use Rattle.sizes.specs.Sizes.{sizes_rules}
use Rattle.sources.specs.Plan.{plan_of}

-- "There are r(g-1)k triples" [for 1 ≤ g]
unfoldable pub triples_of : Geometry → ℕ
triples_of G = parts_of G * (G.g - 1) * G.k

-- the lent list at return: the plan first; "any rest of the list is untouched"
unfoldable pub planned : Geometry → List ℕ → (disk : ℕ) → List ℕ → List ℕ
planned G d disk old = plan_of G d disk ++ drop (3 * triples_of G) old

-- rows 2 to 6, 9 "disk .. number too high", 14 "plan list shorter than 3·r(g-1)k"
unfoldable pub plan_rules : Geometry → (design : List ℕ) → (disk : ℕ) → (room : ℕ) → List Rule
plan_rules G d disk room =
    sizes_rules G d ++ (rule 9 (leb (disks_of G) disk) 0 ∷ rule 14 (ltb room (3 * triples_of G)) 0 ∷ [])
