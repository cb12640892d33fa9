-- 000, sections 4.1, 4.2 and 5.1 and equation 2, as 01, "The two parities", numbers them: the columns of labels, diagonals
-- and inner parities in one region, "rows and columns 0 to g-1". No number is negative: a column moved left by n is one moved
-- right by g - n. Assumes nothing.
use Rattle.std.specs.Prelude.{ℕ, ◌+◌, ◌-◌, ◌*◌, ◌%◌, ◌≤◌}

-- "label (i,c) stands in the region at position l in column (c + i·l) mod g": row i is shifted right by i times the position
-- [for 1 ≤ g]
unfoldable pub label_column : (g l i c : ℕ) → ℕ
label_column g l i c = (c + i * l) % g

-- the label's c of what stands at position l in row i and column x: 000's "(j-i×l) mod g" [for l ≤ g and 1 ≤ g]
unfoldable pub label_at : (g l i x : ℕ) → ℕ
label_at g l i x = (x + i * (g - l)) % g

-- "diagonal j of a region has the units of row i, column (i - j) mod g" [for j ≤ g and 1 ≤ g]
unfoldable pub diagonal_column : (g j i : ℕ) → ℕ
diagonal_column g j i = (i + (g - j)) % g

-- the diagonal of the unit in row i and column x, (i - x) mod g [for x ≤ g and 1 ≤ g]
unfoldable pub diagonal_at : (g i x : ℕ) → ℕ
diagonal_at g i x = (i + (g - x)) % g

-- "Row g-1 holds its parity, in column g-1-j" [for j < g]
abbrev pub parity_column : (g j : ℕ) → ℕ
parity_column g j = g - 1 - j

-- a group's size, and a position, a row and a column of its regions: how large the numbers are that the functions take
pub record Small (g l i x : ℕ) : Type 0 where
  pub g_low : 1 ≤ g
  pub g_high : g ≤ 13
  pub l_high : l ≤ 13
  pub i_high : i ≤ 13
  pub x_high : x ≤ 13
