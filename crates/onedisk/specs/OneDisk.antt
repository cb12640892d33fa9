-- 00, demand 3: "With one disk lost": what the passes do in a tuple. Assumes nothing.
use Rattle.std.specs.Prelude.{ℕ, zero, suc, ◌-◌, ◌/◌, ◌%◌, ◌<◌, ◌≡◌, cond, List, [], ◌∷◌, ltb, get_or}
use Rattle.geometry.specs.declared.Geometry.{Geometry}
use Rattle.geometry.specs.Geometry.{disks_of}
use Rattle.design.specs.Design.{names}
use Rattle.cells.specs.declared.Cell.{Cell}
use Rattle.cells.specs.Cells.{cell}
use Rattle.layout.specs.Regions.{position_of}
use Rattle.peeling.specs.Peeling.{Side, Step}
use Rattle.reaching.specs.Reach.{number_of, outer_side, inner_side}

-- disk x, and no other, is marked
pub record OneLost (G : Geometry) (marks : List ℕ) (x : ℕ) : Type 0 where
  pub disk : x < disks_of G
  pub lost : get_or marks x 0 ≡ 1
  pub only : (y : ℕ) → y < disks_of G → get_or marks y 0 ≡ 1 → y ≡ x

-- the set that is tried first: the outer one, or the inner one of a unit of row g-1 [for 1 ≤ g]
unfoldable pub first_side : Geometry → Cell → Side
first_side G x = cond (ltb x.row (G.g - 1)) (outer_side G x) (inner_side G x)

-- rows 0 to n - 1 of column c of the region at position l, upwards, each restored from the set tried first; newest first
unfoldable pub column_steps : Geometry → (t l c : ℕ) → (n : ℕ) → List Step
column_steps G t l c zero = []
column_steps G t l c (suc i) =
    record { cell = number_of G (cell t l i c); side = first_side G (cell t l i c) } ∷ column_steps G t l c i

-- what is restored in tuple t when disk x is lost: its column of its group's region, if the tuple names the group [for 1 ≤ g]
unfoldable pub disk_steps : Geometry → List ℕ → (x t : ℕ) → List Step
disk_steps G d x t =
    cond (names G.k d (x / G.g) t) (column_steps G t (position_of G d (x / G.g) t) (x % G.g) G.g) []
