-- 01, "The two parities": the cell of a user unit and the role of a cell. Assumes nothing.
use Rattle.std.specs.Prelude.{ℕ, ◌-◌, cond, eqb}
use Rattle.geometry.specs.declared.Geometry.{Geometry}
use Rattle.numbering.specs.declared.Digits.{Digits}
use Rattle.numbering.specs.Positions.{parity_position, data_position, data_number}
use Rattle.numbering.specs.Numbering.{user_number, digits_of}
use Rattle.cells.specs.declared.Cell.{Cell}
use Rattle.cells.specs.declared.Role.{Role}
use Rattle.cells.specs.declared.Role.TheVariants.{User, Outer, Inner}
use Rattle.cells.specs.Cells.{label_of, diagonal_of}
use Rattle.cells.specs.Sets.{outer_member, outer_parity, inner_parity}

-- the cell of the label and data region that the digits name, and the outer parity of the label
abbrev pub data_cell : Geometry → Digits → Cell
data_cell G x = outer_member G x.tuple.0 x.row x.column (data_position G x.tuple.0 x.region)

abbrev pub parity_cell : Geometry → Digits → Cell
parity_cell G x = outer_parity G x.tuple.0 x.row x.column

-- "User unit n is label (i,c) at position l of tuple t"
unfoldable pub user_cell : Geometry → ℕ → Cell
user_cell G n = data_cell G (digits_of G n)

-- the outer parity of user unit n's label
unfoldable pub user_outer : Geometry → ℕ → Cell
user_outer G n = parity_cell G (digits_of G n)

-- the inner parity of the diagonal on which a cell lies
unfoldable pub inner_of : Geometry → Cell → Cell
inner_of G x = inner_parity G x.tuple.0 x.position (diagonal_of G x)

abbrev pub user : ℕ → Role
user n = User (record { 0 = n })

abbrev pub outer : (t i c : ℕ) → Role
outer t i c = Outer (record { 0 = t }) i c

abbrev pub inner : (t l j : ℕ) → Role
inner t l j = Inner (record { 0 = t }) l j

-- what a cell is for: in row g-1 the inner parity of its diagonal; at the parity's position the outer parity of its label;
-- else the user unit of its label and region [for 1 ≤ g]
unfoldable pub role_of : Geometry → Cell → Role
role_of G x =
    cond (eqb x.row (G.g - 1))
    (inner x.tuple.0 x.position (diagonal_of G x))
    (cond (eqb x.position (parity_position G x.tuple.0))
    (outer x.tuple.0 x.row (label_of G x))
    (user (user_number G x.tuple.0 (data_number G x.tuple.0 x.position) x.row (label_of G x))))

-- the cell that has the role
unfoldable pub cell_of : Geometry → Role → Cell
cell_of G (User n) = user_cell G n.0
cell_of G (Outer t i c) = outer_parity G t.0 i c
cell_of G (Inner t l j) = inner_parity G t.0 l j
