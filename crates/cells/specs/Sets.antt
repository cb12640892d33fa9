-- 01, "The two parities": the sets and their members. Assumes nothing.
use Rattle.std.specs.Prelude.{ℕ, ◌-◌, ◌<◌, ◌≡◌}
use Rattle.geometry.specs.declared.Geometry.{Geometry}
use Rattle.region.specs.Columns.{label_column, diagonal_column, parity_column}
use Rattle.numbering.specs.Positions.{parity_position}
use Rattle.cells.specs.declared.Cell.{Cell}
use Rattle.cells.specs.Cells.{cell}

-- "The k units with one label form an outer set": the member at position l of the outer set (t,i,c)
abbrev pub outer_member : Geometry → (t i c l : ℕ) → Cell
outer_member G t i c l = cell t l i (label_column G.g l i c)

-- "diagonal j of a region has the units of row i": the member in row i of the inner set (t,l,j)
abbrev pub inner_member : Geometry → (t l j i : ℕ) → Cell
inner_member G t l j i = cell t l i (diagonal_column G.g j i)

-- the outer parity of (t,i,c)
abbrev pub outer_parity : Geometry → (t i c : ℕ) → Cell
outer_parity G t i c = outer_member G t i c (parity_position G t)

-- "Row g-1 holds its parity, in column g-1-j": the inner parity of (t,l,j) [for j < g]
abbrev pub inner_parity : Geometry → (t l j : ℕ) → Cell
inner_parity G t l j = cell t l (G.g - 1) (parity_column G.g j)

-- the cell is in the outer set (t,i,c)
abbrev pub InOuter : Geometry → (t i c : ℕ) → Cell → Type 0
InOuter G t i c x = (l : ℕ) × (l < G.k) × (x ≡ outer_member G t i c l)

-- the cell is in the inner set (t,l,j)
abbrev pub InInner : Geometry → (t l j : ℕ) → Cell → Type 0
InInner G t l j x = (i : ℕ) × (i < G.g) × (x ≡ inner_member G t l j i)
