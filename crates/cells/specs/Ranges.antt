-- Which cells and roles a geometry has: 01, "Design and geometry" and "The two parities". Assumes nothing.
use Rattle.std.specs.Prelude.{◌<◌}
use Rattle.geometry.specs.declared.Geometry.{Geometry}
use Rattle.geometry.specs.Geometry.{tuples_of, user_units_of}
use Rattle.numbering.specs.Ranges.{OuterIn, InnerIn}
use Rattle.cells.specs.declared.Cell.{Cell}
use Rattle.cells.specs.declared.Role.{Role}
use Rattle.cells.specs.declared.Role.TheVariants.{User, Outer, Inner}

-- "positions l = 0 to k-1", "rows and columns 0 to g-1"
pub record CellIn (G : Geometry) (x : Cell) : Type 0 where
  pub tuple : x.tuple.0 < tuples_of G
  pub position : x.position < G.k
  pub row : x.row < G.g
  pub column : x.column < G.g

-- the roles: "There are b·(k-1)·(g-1)·g" user units, an outer parity for each label, an inner one for each diagonal
abbrev pub RoleIn : Geometry → Role → Type 0
RoleIn G (User n) = n.0 < user_units_of G
RoleIn G (Outer t i c) = OuterIn G t.0 i c
RoleIn G (Inner t l j) = InnerIn G t.0 l j
