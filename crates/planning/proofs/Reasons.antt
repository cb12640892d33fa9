-- The refusals of the plan come exactly as 01 tables them. Assumes nothing.
use Prim.Native.Nat.{ℕ, ◌-◌, ◌*◌, ◌≤◌, ◌<◌}
use mathlib.Core.List.{List}
use lib.Dec.{leb, ltb}
use borrow.Author.Tests.{leb-true, le-leb, ltb-true, lt-ltb}
use Rattle.refusal.specs.Refusal.{answer}
use Rattle.refusal.specs.Due.{Exact}
use Rattle.refusal.proofs.Exactness.{Fits, zero_fit, fits_append, exact}
use Rattle.geometry.specs.declared.Geometry.{Geometry}
use Rattle.geometry.specs.Geometry.{parts_of, disks_of}
use Rattle.sizes.specs.Sizes.{sizes_rules}
use Rattle.sizes.specs.Reasons.{sizes_rows}
use Rattle.sizes.proofs.Reasons.{sizes_fits}
use Rattle.planning.specs.Plan.{triples_of, plan_rules}
use Rattle.planning.specs.Reasons.{plan_rows}

module _ (G : Geometry) (d : List ℕ) (disk room : ℕ) where
  abbrev needed : ℕ
  needed = 3 * (parts_of G * (G.g - 1) * G.k)

  pub plan_fits : Fits (plan_rules G d disk room) (plan_rows G d disk room)
  unfolding plan_rules triples_of
  plan_fits =
      fits_append (sizes_rules G d) _ (sizes_rows G d) _ (sizes_fits G d)
      (λ _. (
        zero_fit 9 (leb (disks_of G) disk) (disks_of G ≤ disk) (leb-true (disks_of G) disk) (le-leb (disks_of G) disk),
        λ _. (zero_fit 14 (ltb room needed) (room < needed) (ltb-true room needed) (lt-ltb room needed), λ _. tt),
      ))

  -- "refusals come exactly as tabled": 2 to 6, 9 and 14
  pub plan_exact : {A : Type 0} (a : A) → Exact (plan_rows G d disk room) (answer (plan_rules G d disk room) a)
  plan_exact a = exact (plan_rules G d disk room) (plan_rows G d disk room) a plan_fits
