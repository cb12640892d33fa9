-- The cells of a tuple: 01, "The two parities". A cell is (tuple, position, row, column); cells know nothing of disks. Assumes
-- nothing.
use Rattle.std.specs.Prelude.{ℕ}
use Rattle.geometry.specs.declared.Geometry.{Geometry}
use Rattle.region.specs.Columns.{label_at, diagonal_at}
use Rattle.cells.specs.declared.Cell.{Cell}

-- the cell of tuple t at position l, row i and column x
abbrev pub cell : ℕ → ℕ → ℕ → ℕ → Cell
cell t l i x = record { tuple = record { 0 = t }; position = l; row = i; column = x }

-- the c of a cell's label, and its diagonal
abbrev pub label_of : Geometry → Cell → ℕ
label_of G x = label_at G.g x.position x.row x.column

abbrev pub diagonal_of : Geometry → Cell → ℕ
diagonal_of G x = diagonal_at G.g x.row x.column
