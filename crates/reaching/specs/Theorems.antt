-- What is proved of the passes in a tuple, each under its sentence of 01: the statements alone. Assumes nothing.
use Rattle.std.specs.Prelude.{ℕ, ◌<◌, ◌≡◌, List}
use Rattle.geometry.specs.declared.Geometry.{Geometry}
use Rattle.geometry.specs.Geometry.{tuples_of}
use Rattle.design.specs.Design.{Laid}
use Rattle.cells.specs.declared.Cell.{Cell}
use Rattle.cells.specs.Ranges.{CellIn}
use Rattle.peeling.specs.Theorems.{Own}
use Rattle.reaching.specs.Reach.{tuple_cells_of, number_of, cell_numbered, outer_side, inner_side}

-- "position, then row, then column, each upwards": the numbers below k·g·g are the tuple's cells, each once
pub record CellsNumbered (G : Geometry) (t : ℕ) : Type 0 where
  pub there : (n : ℕ) → n < tuple_cells_of G → CellIn G (cell_numbered G t n)
  pub back : (n : ℕ) → n < tuple_cells_of G → number_of G (cell_numbered G t n) ≡ n
  pub low : (x : Cell) → CellIn G x → number_of G x < tuple_cells_of G
  pub again : (x : Cell) → CellIn G x → x.tuple.0 ≡ t → cell_numbered G t (number_of G x) ≡ x

abbrev pub TheCellsOfATupleAreNumbered : Type 0
TheCellsOfATupleAreNumbered =
    (G : Geometry) (d : List ℕ) → Laid G d → (t : ℕ) → t < tuples_of G → CellsNumbered G t

-- each set is seen by a cell as its own
pub record OwnSides (G : Geometry) (x : Cell) : Type 0 where
  pub outer : Own (number_of G x) (outer_side G x)
  pub inner : Own (number_of G x) (inner_side G x)

abbrev pub ACellStandsInItsSets : Type 0
ACellStandsInItsSets = (G : Geometry) (d : List ℕ) → Laid G d → (x : Cell) → CellIn G x → OwnSides G x
