-- What is proved of the columns of a region, each under its sentence of 01 or 000: the statements alone. That g is prime is
-- not used. Assumes nothing.
use Rattle.std.specs.Prelude.{ℕ, ◌+◌, ◌-◌, ◌*◌, ◌%◌, ◌<◌, ◌≡◌}
use Rattle.geometry.specs.declared.Geometry.{Geometry}
use Rattle.geometry.specs.Geometry.{Sound}
use Rattle.region.specs.Columns.{label_column, diagonal_column, parity_column}

-- "label (i,c) stands in the region at position l in column (c + i·l) mod g" [for 1 ≤ g]
abbrev pub TheColumnOfALabel : Type 0
TheColumnOfALabel = (g l i c : ℕ) → label_column g l i c ≡ (c + i * l) % g

-- x is "column (i - j) mod g": below g, and with j added it is i [for 1 ≤ g]
pub record Column (g i j x : ℕ) : Type 0 where
  pub low : x < g
  pub turned : (x + j) % g ≡ i

-- "diagonal j of a region has the units of row i, column (i - j) mod g"
abbrev pub TheColumnsOfADiagonal : Type 0
TheColumnsOfADiagonal = (g i j : ℕ) → i < g → j < g → Column g i j (diagonal_column g j i)

-- equation 2: "Row g-1 holds its parity, in column g-1-j" [1 ≤ g, from j < g]
abbrev pub TheParityIsOnItsDiagonal : Type 0
TheParityIsOnItsDiagonal =
    (g j : ℕ) → j < g → (parity_column g j ≡ g - 1 - j) × (diagonal_column g j (g - 1) ≡ parity_column g j)

-- 000, 4.2: "only reads up to one storage unit from each of the surviving disks in other groups": labels (i,c) and (j,e)
-- that share a column at two positions of a tuple, so a disk in two groups, are one
abbrev pub TwoLabelsMeetOnce : Type 0
TwoLabelsMeetOnce =
    (G : Geometry) → Sound G → (l m i j c e : ℕ) → l < G.k → m < G.k → (l ≡ m → ⊥) →
    i < G.g → j < G.g → c < G.g → e < G.g →
    label_column G.g l i c ≡ label_column G.g l j e → label_column G.g m i c ≡ label_column G.g m j e →
    (i ≡ j) × (c ≡ e)
