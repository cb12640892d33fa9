-- 01, "Design and geometry" and "Calls": the bytes of the array. "The buffer holds disk 0 whole, then disk 1, and so on".
-- Assumes nothing.
use Rattle.std.specs.Prelude.{ℕ, ◌+◌, ◌*◌, List, replicate}
use Rattle.geometry.specs.declared.Geometry.{Geometry}
use Rattle.geometry.specs.Geometry.{units_of, disks_of, bytes_of}
use Rattle.cells.specs.declared.Cell.{Cell}
use Rattle.layout.specs.declared.Place.{Place}
use Rattle.layout.specs.Places.{place_of}

-- where the first byte of a unit lies
unfoldable pub start_of : Geometry → Place → ℕ
start_of G p = (p.disk.0 * units_of G + p.unit.0) * G.u

-- where the unit of a cell begins
unfoldable pub cell_start : Geometry → List ℕ → Cell → ℕ
cell_start G d x = start_of G (place_of G d x)

-- "all array bytes become zero, all marks 0"
unfoldable pub formatted_array : Geometry → List ℕ
formatted_array G = replicate (bytes_of G) 0

unfoldable pub formatted_marks : Geometry → List ℕ
formatted_marks G = replicate (disks_of G) 0
