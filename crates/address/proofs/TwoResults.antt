-- "That two results allowed by it are equal is itself proved" (01), over the contracts of the calls themselves; and some
-- result is allowed. Assumes nothing.
use Prim.Native.Nat.{ℕ}
use mathlib.Core.Path.{◌≡◌, refl, sym, ◌∙◌}
use mathlib.Core.List.{List}
use contract.Lifetimes.{Lfts}
use denote.Ref.{Bor}
use Rattle.refusal.proofs.Same.{same_answer, AllTabled, tabled_append, some_answer}
use Rattle.geometry.specs.declared.Geometry.{Geometry}
use Rattle.geometry.specs.declared.Disk.{Disk}
use Rattle.geometry.specs.declared.Unit.{Unit as UnitNumber}
use Rattle.geometry.specs.declared.UserUnit.{UserUnit}
use Rattle.cells.specs.declared.Role.{Role}
use Rattle.layout.specs.declared.Four.{Four}
use Rattle.address.proofs.map.Reads as map
use Rattle.address.proofs.role.Reads as role
use Rattle.std.specs.Prelude.{Result}
use Rattle.refusal.specs.declared.Refusal.{Refusal}
use Rattle.refusal.specs.declared.Refusal.TheVariants.{UserUnitTooHigh, PlaceTooHigh}
use Rattle.layout.specs.Places.{four_of, role_at}
use Rattle.sizes.specs.Sizes.{sizes_rules}
use Rattle.sizes.proofs.TwoResults.{sizes_tabled}
use Rattle.address.specs.Address.{map_rules, role_rules}

-- each of their rules is a row of the table
map_tabled : (G : Geometry) (d : List ℕ) (n : ℕ) → AllTabled (map_rules G d n)
unfolding map_rules
map_tabled G d n = tabled_append (sizes_rules G d) _ (sizes_tabled G d) ((UserUnitTooHigh, refl, refl), tt)

role_tabled : (G : Geometry) (d : List ℕ) (x y : ℕ) → AllTabled (role_rules G d x y)
unfolding role_rules
role_tabled G d x y = tabled_append (sizes_rules G d) _ (sizes_tabled G d) ((PlaceTooHigh, refl, refl), tt)

-- what the contracts allow to be answered for a geometry, a lent list and a user unit, or a disk and a unit
abbrev pub MapAllowed : Lfts 1 → Geometry → Bor (List ℕ) → UserUnit → Result Four Refusal → Type 0
MapAllowed κs G design n r = map.Post κs (G, (design, (n, tt))) r (G, (design, (n, tt)))

abbrev pub RoleAllowed : Lfts 1 → Geometry → Bor (List ℕ) → Disk → UnitNumber → Result Role Refusal → Type 0
RoleAllowed κs G design x y r = role.Post κs (G, (design, (x, (y, tt)))) r (G, (design, (x, (y, tt))))

module _ (κs : Lfts 1) (G : Geometry) (design : Bor (List ℕ)) where
  pub map_two_results : (n : UserUnit) (r s : Result Four Refusal) → MapAllowed κs G design n r → MapAllowed κs G design n s → r ≡ s
  map_two_results n r s p q = same_answer r s (p ∙ sym q)

  pub map_some_result : (n : UserUnit) → (r : Result Four Refusal) × MapAllowed κs G design n r
  map_some_result n = some_answer (map_rules G design.now n.0) (four_of G design.now n.0) (map_tabled G design.now n.0)

  pub role_two_results :
      (x : Disk) (y : UnitNumber) (r s : Result Role Refusal) → RoleAllowed κs G design x y r → RoleAllowed κs G design x y s → r ≡ s
  role_two_results x y r s p q = same_answer r s (p ∙ sym q)

  pub role_some_result : (x : Disk) (y : UnitNumber) → (r : Result Role Refusal) × RoleAllowed κs G design x y r
  role_some_result x y =
      some_answer (role_rules G design.now x.0 y.0) (role_at G design.now x.0 y.0) (role_tabled G design.now x.0 y.0)
