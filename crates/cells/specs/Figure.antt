-- 000, figure 4: its last tuple with 01's numbers. Assumes nothing.
use Rattle.std.specs.Prelude.{ℕ, ◌/◌, ◌%◌, ◌≡◌, List, [], ◌∷◌, map}
use Rattle.counting.specs.Lists.{list_of}
use Rattle.geometry.specs.declared.Geometry.{Geometry}
use Rattle.numbering.specs.Numbering.{outer_number, inner_number}
use Rattle.cells.specs.declared.Cell.{Cell}
use Rattle.cells.specs.declared.Role.{Role}
use Rattle.cells.specs.Cells.{cell}
use Rattle.cells.specs.Roles.{user, outer, inner, role_of, cell_of}

-- the figure's sizes
abbrev pub shelf : Geometry
shelf = record { v = 7; k = 3; g = 3; u = 1 }

-- row i of the region at position l of the last tuple
abbrev pub last_row : (l i : ℕ) → List Cell
last_row l i = cell 6 l i 0 ∷ cell 6 l i 1 ∷ cell 6 l i 2 ∷ []

-- its units have these roles, and these roles have its units
abbrev pub Row : (l i : ℕ) → (a b c : Role) → Type 0
Row l i a b c =
    (map (role_of shelf) (last_row l i) ≡ a ∷ b ∷ c ∷ []) × (map (cell_of shelf) (a ∷ b ∷ c ∷ []) ≡ last_row l i)

-- its 27 units, "user unit n; outer parity of (t,i,c); or inner parity of (t,l,j)", and the numbers of its 15 sets [by 3]
pub record LastTuple : Type 0 where
  pub row_0_0 : Row 0 0 (user 72) (user 73) (user 74)
  pub row_0_1 : Row 0 1 (user 75) (user 76) (user 77)
  pub row_0_2 : Row 0 2 (inner 6 0 2) (inner 6 0 1) (inner 6 0 0)
  pub row_1_0 : Row 1 0 (user 78) (user 79) (user 80)
  pub row_1_1 : Row 1 1 (user 83) (user 81) (user 82)
  pub row_1_2 : Row 1 2 (inner 6 1 2) (inner 6 1 1) (inner 6 1 0)
  pub row_2_0 : Row 2 0 (outer 6 0 0) (outer 6 0 1) (outer 6 0 2)
  pub row_2_1 : Row 2 1 (outer 6 1 1) (outer 6 1 2) (outer 6 1 0)
  pub row_2_2 : Row 2 2 (inner 6 2 2) (inner 6 2 1) (inner 6 2 0)
  pub outer_sets : list_of (λ (e : ℕ). outer_number shelf 6 (e / 3) (e % 3)) 6 ≡ 90 ∷ 91 ∷ 92 ∷ 93 ∷ 94 ∷ 95 ∷ []
  pub inner_sets :
      list_of (λ (e : ℕ). inner_number shelf 6 (e / 3) (e % 3)) 9
      ≡ 96 ∷ 97 ∷ 98 ∷ 99 ∷ 100 ∷ 101 ∷ 102 ∷ 103 ∷ 104 ∷ []
