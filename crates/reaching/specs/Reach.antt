-- 01, "Calls" (rebuild): the passes over a tuple of the array. "In a tuple, a pass visits position, then row, then column, each
-- upwards." What they reach depends on the marks alone. Assumes nothing.
use Rattle.std.specs.Prelude.{ℕ, ◌+◌, ◌-◌, ◌*◌, ◌/◌, ◌%◌, Bool, not, cond, List, [], ◌∷◌, ltb}
use Rattle.counting.specs.Counting.{any_below}
use Rattle.geometry.specs.declared.Geometry.{Geometry}
use Rattle.cells.specs.declared.Cell.{Cell}
use Rattle.cells.specs.Cells.{cell, label_of, diagonal_of}
use Rattle.cells.specs.Sets.{outer_member, inner_member}
use Rattle.layout.specs.Places.{place_of}
use Rattle.layout.specs.Marks.{lost}
use Rattle.peeling.specs.Peeling.{Side, Step, present_after, peeled}

-- the cells of a tuple, numbered from 0 in the order of a pass: k positions of g rows of g columns
unfoldable pub tuple_cells_of : Geometry → ℕ
tuple_cells_of G = G.k * G.g * G.g

unfoldable pub number_of : Geometry → Cell → ℕ
number_of G x = (x.position * G.g + x.row) * G.g + x.column

-- cell n of tuple t [for 1 ≤ g]
unfoldable pub cell_numbered : Geometry → (t n : ℕ) → Cell
cell_numbered G t n = cell t (n / G.g / G.g) (n / G.g % G.g) (n % G.g)

-- the outer set of the cell's label as the cell sees it: the member at position l is l-th, and its own is at its position
unfoldable pub outer_side : Geometry → Cell → Side
outer_side G x =
    record {
      size = G.k;
      member = λ (l : ℕ). number_of G (outer_member G x.tuple.0 x.row (label_of G x) l);
      own = x.position;
    }

-- the inner set of its diagonal: the member in row i is i-th, and its own is in its row
unfoldable pub inner_side : Geometry → Cell → Side
inner_side G x =
    record {
      size = G.g;
      member = λ (i : ℕ). number_of G (inner_member G x.tuple.0 x.position (diagonal_of G x) i);
      own = x.row;
    }

-- "A missing unit whose outer set lacks only it ..; otherwise, if its inner set lacks only it": the order of trial. A unit of
-- row g-1 has no label [for 1 ≤ g]
unfoldable pub sides_of : Geometry → (t n : ℕ) → List Side
sides_of G t n =
    cond (ltb (cell_numbered G t n).row (G.g - 1))
    (outer_side G (cell_numbered G t n) ∷ inner_side G (cell_numbered G t n) ∷ [])
    (inner_side G (cell_numbered G t n) ∷ [])

-- present from the start: "0 present and 1 lost"
unfoldable pub here_of : Geometry → List ℕ → (marks : List ℕ) → (t n : ℕ) → Bool
here_of G d marks t n = not (lost G marks (place_of G d (cell_numbered G t n)))

-- what the passes restore in tuple t, newest first
unfoldable pub steps_of : Geometry → List ℕ → (marks : List ℕ) → (t : ℕ) → List Step
steps_of G d marks t = peeled (here_of G d marks t) (sides_of G t) (tuple_cells_of G)

-- 13: "rebuild leaves a tuple incomplete": some cell is not present when the passes end
unfoldable pub incomplete : Geometry → List ℕ → (marks : List ℕ) → (t : ℕ) → Bool
incomplete G d marks t =
    any_below (λ (n : ℕ). not (present_after (here_of G d marks t) (steps_of G d marks t) n)) (tuple_cells_of G)
