-- How many triples there can be, and the plan's length by their number. Assumes nothing.
use Prim.Native.Nat.{ℕ, ◌-◌, ◌*◌, ◌≤◌, ◌<◌}
use mathlib.Core.Path.{◌≡◌}
use mathlib.Core.List.{List}
use native.Mathlib.Nat.{mul-le-mul}
use native.Mathlib.Omega.{arith}
use lib.ListN.{length}
use Rattle.geometry.specs.declared.Geometry.{Geometry}
use Rattle.geometry.specs.Geometry.{Sound, parts_of, disks_of}
use Rattle.geometry.proofs.Laws.{parts_bound}
use Rattle.design.specs.Design.{Laid}
use Rattle.sources.specs.Plan.{plan_of}
use Rattle.sources.proofs.Theorems.{the_plan_has_as_many_triples}
use Rattle.planning.specs.Plan.{triples_of}

pub part_triples_bound : (G : Geometry) → Sound G → parts_of G * (G.g - 1) ≤ 1080
part_triples_bound G s = let p : G.g - 1 ≤ 12 = omega arith in mul-le-mul (parts_bound G s) p

pub triples_bound : (G : Geometry) → Sound G → triples_of G ≤ 10800
unfolding triples_of
triples_bound G s = mul-le-mul (part_triples_bound G s) s.limits.k_high

pub plan_length : (G : Geometry) (d : List ℕ) → Laid G d → (disk : ℕ) → disk < disks_of G → length (plan_of G d disk) ≡ 3 * triples_of G
unfolding triples_of
plan_length = the_plan_has_as_many_triples
