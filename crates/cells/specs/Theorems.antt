-- What is proved of the cells of a tuple, each under its sentence of 01 or 000: the statements alone. They hold for any
-- geometry that 2, 3 and 6 let through; that g is prime is not used. Assumes nothing.
use Rattle.std.specs.Prelude.{ℕ, ◌+◌, ◌-◌, ◌*◌, ◌%◌, ◌<◌, ◌≡◌}
use Rattle.geometry.specs.declared.Geometry.{Geometry}
use Rattle.geometry.specs.Geometry.{Sound}
use Rattle.region.specs.Theorems.{Column}
use Rattle.numbering.specs.Ranges.{OuterIn, InnerIn, UserIn}
use Rattle.cells.specs.declared.Cell.{Cell}
use Rattle.cells.specs.declared.Role.{Role}
use Rattle.cells.specs.Cells.{cell, label_of, diagonal_of}
use Rattle.cells.specs.Sets.{InOuter, InInner}
use Rattle.cells.specs.Roles.{user, outer, inner, role_of, cell_of}
use Rattle.cells.specs.Ranges.{CellIn, RoleIn}

-- "User unit n is label (i,c) at position l of tuple t, with n = ((t·(k-1) + l)·(g-1) + i)·g + c and l below k-1"; "label
-- (i,c) stands in the region at position l in column (c + i·l) mod g" [2 ≤ k and 2 ≤ g, from UserIn]
abbrev pub TheCellOfAUserUnit : Type 0
TheCellOfAUserUnit =
    (G : Geometry) (t l i c : ℕ) → UserIn G t l i c →
    cell_of G (user (((t * (G.k - 1) + l) * (G.g - 1) + i) * G.g + c)) ≡ cell t l i ((c + i * l) % G.g)

-- "The unit at position k-1 is its parity" [for 1 ≤ k and 1 ≤ g]
abbrev pub TheCellOfAnOuterParity : Type 0
TheCellOfAnOuterParity =
    (G : Geometry) (t i c : ℕ) → cell_of G (outer t i c) ≡ cell t (G.k - 1) i ((c + i * (G.k - 1)) % G.g)

-- "Row g-1 holds its parity, in column g-1-j" [for j < g]
abbrev pub TheCellOfAnInnerParity : Type 0
TheCellOfAnInnerParity =
    (G : Geometry) (t l j : ℕ) → cell_of G (inner t l j) ≡ cell t l (G.g - 1) (G.g - 1 - j)

-- "user unit n; outer parity of (t,i,c); or inner parity of (t,l,j)": each cell has one role and each role one cell
pub record OneRoleEach (G : Geometry) : Type 0 where
  pub there : (ρ : Role) → RoleIn G ρ → CellIn G (cell_of G ρ)
  pub back : (ρ : Role) → RoleIn G ρ → role_of G (cell_of G ρ) ≡ ρ
  pub role : (x : Cell) → CellIn G x → RoleIn G (role_of G x)
  pub again : (x : Cell) → CellIn G x → cell_of G (role_of G x) ≡ x

abbrev pub CellsAndRolesAreInverse : Type 0
CellsAndRolesAreInverse = (G : Geometry) → Sound G → OneRoleEach G

-- "diagonal j of a region has the units of row i, column (i - j) mod g"
abbrev pub TheMembersOfAnInnerSet : Type 0
TheMembersOfAnInnerSet =
    (G : Geometry) → Sound G → (t l j : ℕ) → InnerIn G t l j → (x : Cell) → InInner G t l j x →
    Column G.g x.row j x.column

-- "label (i,c) stands in the region at position l in column (c + i·l) mod g. The k units with one label form an outer set."
-- [for 1 ≤ g]
abbrev pub TheMembersOfAnOuterSet : Type 0
TheMembersOfAnOuterSet =
    (G : Geometry) (t i c : ℕ) (x : Cell) → InOuter G t i c x →
    x ≡ cell t x.position i ((c + i * x.position) % G.g)

-- each parity is itself a unit of its set
pub record ParitiesIn (G : Geometry) : Type 0 where
  pub of_inner : (t l j : ℕ) → InnerIn G t l j → InInner G t l j (cell_of G (inner t l j))
  pub of_outer : (t i c : ℕ) → OuterIn G t i c → InOuter G t i c (cell_of G (outer t i c))

abbrev pub TheParitiesAreInTheirSets : Type 0
TheParitiesAreInTheirSets = (G : Geometry) → Sound G → ParitiesIn G

-- a unit is on the diagonal that is called its own, and has the label that is called its own [1 ≤ g, from CellIn]
abbrev pub AUnitIsInTheInnerSetOfItsDiagonal : Type 0
AUnitIsInTheInnerSetOfItsDiagonal =
    (G : Geometry) → Sound G → (x : Cell) → CellIn G x → InInner G x.tuple.0 x.position (diagonal_of G x) x

abbrev pub AUnitIsInTheOuterSetOfItsLabel : Type 0
AUnitIsInTheOuterSetOfItsLabel =
    (G : Geometry) → Sound G → (x : Cell) → CellIn G x → x.row < G.g - 1 →
    InOuter G x.tuple.0 x.row (label_of G x) x

-- one inner set (t,l,j), and no other, holds the cell
pub record OneInner (G : Geometry) (x : Cell) : Type 0 where
  pub tuple : ℕ
  pub position : ℕ
  pub diagonal : ℕ
  pub valid : InnerIn G tuple position diagonal
  pub held : InInner G tuple position diagonal x
  pub only : (t l j : ℕ) → InnerIn G t l j → InInner G t l j x → (t ≡ tuple) × (l ≡ position) × (j ≡ diagonal)

-- "diagonal j of a region has the units of row i, column (i - j) mod g, for all i from 0 to g-1": each unit is on one
abbrev pub EachUnitInOneInnerSet : Type 0
EachUnitInOneInnerSet = (G : Geometry) → Sound G → (x : Cell) → CellIn G x → OneInner G x

-- one outer set (t,i,c), and no other, holds the cell
pub record OneOuter (G : Geometry) (x : Cell) : Type 0 where
  pub tuple : ℕ
  pub row : ℕ
  pub column : ℕ
  pub valid : OuterIn G tuple row column
  pub held : InOuter G tuple row column x
  pub only : (t i c : ℕ) → OuterIn G t i c → InOuter G t i c x → (t ≡ tuple) × (i ≡ row) × (c ≡ column)

-- "for rows i below g-1, label (i,c) stands in the region at position l": each unit of these rows has one label [1 ≤ g,
-- from Sound]
abbrev pub EachLabelledUnitInOneOuterSet : Type 0
EachLabelledUnitInOneOuterSet =
    (G : Geometry) → Sound G → (x : Cell) → CellIn G x → x.row < G.g - 1 → OneOuter G x

-- and a unit of row g-1 has none [for 1 ≤ g]
abbrev pub TheLastRowInNoOuterSet : Type 0
TheLastRowInNoOuterSet =
    (G : Geometry) (x : Cell) → x.row ≡ G.g - 1 → (t i c : ℕ) → OuterIn G t i c → InOuter G t i c x → ⊥
