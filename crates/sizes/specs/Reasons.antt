-- 01, "Refusal numbers", row 6 in words, and the rows of the sizes call: 2 to 6. Assumes nothing.
use Rattle.std.specs.Prelude.{ℕ, ◌*◌, ◌≤◌, ◌<◌, ◌≡◌, List, [], ◌∷◌, ◌++◌}
use Rattle.refusal.specs.Due.{Row, row}
use Rattle.geometry.specs.declared.Geometry.{Geometry}
use Rattle.checking.specs.Reasons.{design_rows}

-- e divides g
abbrev pub Divides : (e g : ℕ) → Type 0
Divides e g = (q : ℕ) × (q * e ≡ g)

-- "g is a prime from 2 to 13 and at least k. A unit has u bytes, 1 to 4,096."
pub record Allowed (k g u : ℕ) : Type 0 where
  pub prime : (e : ℕ) → 2 ≤ e → e < g → Divides e g → ⊥
  pub g_low : 2 ≤ g
  pub g_high : g ≤ 13
  pub k_g : k ≤ g
  pub u_low : 1 ≤ u
  pub u_high : u ≤ 4096

-- rows 2 to 6: "g or u not allowed" is 6
abbrev pub sizes_rows : Geometry → List ℕ → List Row
sizes_rows G d =
    design_rows G.v G.k d ++ (row 6 (λ (p : ℕ). (p ≡ 0) × (Allowed G.k G.g G.u → ⊥)) ∷ [])
