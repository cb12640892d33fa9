-- 01, "Calls" (write): what an accepted write does to the array. Assumes nothing.
use Rattle.std.specs.Prelude.{ℕ, ◌+◌, List, [], ◌∷◌, map, length}
use Rattle.geometry.specs.declared.Geometry.{Geometry}
use Rattle.cells.specs.declared.Cell.{Cell}
use Rattle.cells.specs.Roles.{user_cell, user_outer, inner_of}
use Rattle.leaves.specs.Bytes.{xors, add_all}
use Rattle.array.specs.Array.{cell_start}
use Rattle.reading.specs.Reading.{read_of}

-- the cells of "the data unit, its outer parity, the inner parity of the data unit and the inner parity of the outer parity
-- unit"
unfoldable pub write_cells : Geometry → ℕ → List Cell
write_cells G m = user_cell G m ∷ user_outer G m ∷ inner_of G (user_cell G m) ∷ inner_of G (user_outer G m) ∷ []

-- "the difference of new and old bytes" of the range from offset o of user unit m
unfoldable pub difference_of : Geometry → List ℕ → List ℕ → (m o : ℕ) → List ℕ → List ℕ
difference_of G d a m o new = xors (read_of G d a m o (length new)) new

-- it "is XORed into" each of these cells' units, at the range's offset, one cell after the other
unfoldable pub write_of : Geometry → List ℕ → List ℕ → (m o : ℕ) → List ℕ → List ℕ
write_of G d a m o new =
    add_all a (map (λ (x : Cell). cell_start G d x + o) (write_cells G m)) (difference_of G d a m o new)
