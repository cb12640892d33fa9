-- What is proved of the plan, each under its sentence of 01: the statements alone. Assumes nothing.
use Rattle.std.specs.Prelude.{ℕ, ◌-◌, ◌*◌, ◌<◌, ◌≡◌, List, length}
use Rattle.geometry.specs.declared.Geometry.{Geometry}
use Rattle.geometry.specs.Geometry.{parts_of, disks_of}
use Rattle.design.specs.Design.{Laid}
use Rattle.sources.specs.Plan.{plan_of}

-- "There are r(g-1)k triples" [1 ≤ g, from Laid]
abbrev pub ThePlanHasAsManyTriples : Type 0
ThePlanHasAsManyTriples =
    (G : Geometry) (d : List ℕ) → Laid G d → (disk : ℕ) → disk < disks_of G →
    length (plan_of G d disk) ≡ 3 * (parts_of G * (G.g - 1) * G.k)
