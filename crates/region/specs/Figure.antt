-- 000, figure 4: the labels of a tuple's three regions and the inner code of its first region, for g = 3. Assumes nothing.
use Rattle.std.specs.Prelude.{ℕ, ◌+◌, ◌*◌, ◌/◌, ◌%◌, ◌≡◌, List, [], ◌∷◌}
use Rattle.counting.specs.Lists.{list_of}
use Rattle.region.specs.Columns.{label_at, diagonal_column, diagonal_at}

-- "we label the first six units .. as 0, 1, ..., 5, in a row-major order": the labels of the region at position l [by 3]
abbrev pub region_labels : ℕ → List ℕ
region_labels l = list_of (λ (e : ℕ). e / 3 * 3 + label_at 3 l (e / 3) (e % 3)) 6

-- the labels in the first region of the units whose XOR is the parity in column p
abbrev pub parity_labels : ℕ → List ℕ
parity_labels p = list_of (λ (i : ℕ). i * 3 + diagonal_column 3 (diagonal_at 3 2 p) i) 2

-- "Outer layer code: units with the same number form a code vector", and "Inner layer code: P0 = 1 ⊕ 5, P1 = 2 ⊕ 3,
-- P2 = 0 ⊕ 4"
pub record Figure4 : Type 0 where
  pub region_0 : region_labels 0 ≡ 0 ∷ 1 ∷ 2 ∷ 3 ∷ 4 ∷ 5 ∷ []
  pub region_1 : region_labels 1 ≡ 0 ∷ 1 ∷ 2 ∷ 5 ∷ 3 ∷ 4 ∷ []
  pub region_2 : region_labels 2 ≡ 0 ∷ 1 ∷ 2 ∷ 4 ∷ 5 ∷ 3 ∷ []
  pub P0 : parity_labels 0 ≡ 1 ∷ 5 ∷ []
  pub P1 : parity_labels 1 ≡ 2 ∷ 3 ∷ []
  pub P2 : parity_labels 2 ≡ 0 ∷ 4 ∷ []
