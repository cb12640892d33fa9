-- 01, "Refusal numbers", the rows of the plan in words: 2 to 6, 9 and 14. Assumes nothing.
use Rattle.std.specs.Prelude.{ℕ, ◌*◌, ◌-◌, ◌≤◌, ◌<◌, ◌≡◌, List, [], ◌∷◌, ◌++◌}
use Rattle.refusal.specs.Due.{Row, row}
use Rattle.geometry.specs.declared.Geometry.{Geometry}
use Rattle.geometry.specs.Geometry.{parts_of, disks_of}
use Rattle.sizes.specs.Reasons.{sizes_rows}

-- "disk .. number too high"; "plan list shorter than 3·r(g-1)k" [for 1 ≤ g]
abbrev pub plan_rows : Geometry → List ℕ → (disk room : ℕ) → List Row
plan_rows G d disk room =
    sizes_rows G d
    ++ (row 9 (λ (p : ℕ). (p ≡ 0) × (disks_of G ≤ disk))
    ∷ row 14 (λ (p : ℕ). (p ≡ 0) × (room < 3 * (parts_of G * (G.g - 1) * G.k)))
    ∷ [])
