-- "Refusals come exactly as tabled" (01), over the contracts of the calls themselves: 2 to 6 and 10, 2 to 6 and 9.
-- Assumes nothing.
use Prim.Native.Nat.{ℕ}
use mathlib.Core.List.{List}
use contract.Lifetimes.{Lfts}
use denote.Ref.{Bor}
use Rattle.refusal.specs.Due.{Exact}
use Rattle.geometry.specs.declared.Geometry.{Geometry}
use Rattle.geometry.specs.declared.Disk.{Disk}
use Rattle.geometry.specs.declared.Unit.{Unit as UnitNumber}
use Rattle.geometry.specs.declared.UserUnit.{UserUnit}
use Rattle.layout.specs.Places.{four_of, role_at}
use Rattle.address.specs.Reasons.{map_rows, role_rows}
use Rattle.address.proofs.Reasons.{map_exact, role_exact}
use Rattle.address.proofs.TwoResults.{MapAllowed, RoleAllowed}
use Rattle.layout.specs.declared.Four.{Four}
use Rattle.cells.specs.declared.Role.{Role}
use Rattle.std.specs.Prelude.{Result}
use Rattle.refusal.specs.declared.Refusal.{Refusal}
use Rattle.refusal.specs.Refusal.{outcome_of}

module _ (κs : Lfts 1) (G : Geometry) (design : Bor (List ℕ)) where
  pub map_is_exact :
      (n : UserUnit) (r : Result Four Refusal) → MapAllowed κs G design n r → Exact (map_rows G design.now n.0) (outcome_of r)
  map_is_exact n r p = rw p (map_exact G design.now n.0 (four_of G design.now n.0))

  pub role_is_exact :
      (x : Disk) (y : UnitNumber) (r : Result Role Refusal) → RoleAllowed κs G design x y r
      → Exact (role_rows G design.now x.0 y.0) (outcome_of r)
  role_is_exact x y r p =
      rw p (role_exact G design.now x.0 y.0 (role_at G design.now x.0 y.0))
