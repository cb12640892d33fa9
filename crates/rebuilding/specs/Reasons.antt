-- 01, "Refusal numbers", the rows of the rebuild in words: 2 to 8 and 13. Assumes nothing.
use Rattle.std.specs.Prelude.{ℕ, ◌<◌, List, [], ◌∷◌, ◌++◌}
use Rattle.refusal.specs.Due.{Row, row}
use Rattle.geometry.specs.declared.Geometry.{Geometry}
use Rattle.geometry.specs.Geometry.{tuples_of}
use Rattle.peeling.specs.Theorems.{Reached}
use Rattle.reaching.specs.Reach.{tuple_cells_of, sides_of, here_of}
use Rattle.array.specs.Reasons.{array_rows}

-- some unit of tuple t is not reached by the passes
abbrev pub Incomplete : Geometry → List ℕ → (marks : List ℕ) → (t : ℕ) → Type 0
Incomplete G d marks t =
    (n : ℕ) × (n < tuple_cells_of G) × (Reached (here_of G d marks t) (sides_of G t) (tuple_cells_of G) n → ⊥)

-- "rebuild leaves a tuple incomplete", "lowest such tuple"
abbrev pub LowestIncomplete : Geometry → List ℕ → (marks : List ℕ) → (t : ℕ) → Type 0
LowestIncomplete G d marks t =
    (t < tuples_of G) × Incomplete G d marks t × ((s : ℕ) → s < t → Incomplete G d marks s → ⊥)

abbrev pub rebuild_rows : Geometry → List ℕ → (bytes : ℕ) → (marks : List ℕ) → List Row
rebuild_rows G d bytes marks = array_rows G d bytes marks ++ (row 13 (LowestIncomplete G d marks) ∷ [])
