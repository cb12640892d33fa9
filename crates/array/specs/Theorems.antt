-- What is proved of the array, each under its sentence of 01: the statements alone. Assumes nothing.
use Rattle.std.specs.Prelude.{ℕ, ◌+◌, ◌≤◌, ◌≡◌, List}
use Rattle.geometry.specs.declared.Geometry.{Geometry}
use Rattle.geometry.specs.Geometry.{bytes_of}
use Rattle.design.specs.Design.{Laid}
use Rattle.cells.specs.declared.Cell.{Cell}
use Rattle.cells.specs.Ranges.{CellIn}
use Rattle.leaves.specs.Bytes.{Apart}
use Rattle.array.specs.Array.{cell_start}

-- "The buffer holds disk 0 whole, then disk 1, and so on: v·g·r·g·u bytes": each unit lies in it
abbrev pub EachUnitLiesInTheArray : Type 0
EachUnitLiesInTheArray =
    (G : Geometry) (d : List ℕ) → Laid G d → (x : Cell) → CellIn G x → cell_start G d x + G.u ≤ bytes_of G

-- and no two have a byte in common
abbrev pub NoTwoUnitsShareAByte : Type 0
NoTwoUnitsShareAByte =
    (G : Geometry) (d : List ℕ) → Laid G d → (x y : Cell) → CellIn G x → CellIn G y → (x ≡ y → ⊥) →
    Apart (cell_start G d x) G.u (cell_start G d y) G.u
