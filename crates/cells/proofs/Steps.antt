-- A user unit's role, from the numbers that `role_of` works out. Assumes nothing.
use Prim.Native.Nat.{ℕ}
use mathlib.Core.Path.{◌≡◌}
use Rattle.geometry.specs.declared.Geometry.{Geometry}
use Rattle.geometry.specs.declared.UserUnit.{UserUnit}
use Rattle.numbering.specs.Numbering.{user_number}
use Rattle.cells.specs.declared.Cell.{Cell}
use Rattle.cells.specs.declared.Role.TheVariants.{User}
use Rattle.cells.specs.Roles.{user}

-- a user unit is named by its number, worked out from the data region and the label's column
pub user_role : (G : Geometry) (x : Cell) (c l : ℕ) (n : UserUnit) {e m : ℕ} → c ≡ e → l ≡ m
    → n.0 ≡ user_number G x.tuple.0 l x.row c → User n ≡ user (user_number G x.tuple.0 m x.row e)
user_role G x c l n p q h = rw (← p, ← q, ← h)
