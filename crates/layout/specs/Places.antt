-- 01, "Design and geometry": where the cells of a design's tuples lie on the disks, and the way back. Assumes nothing.
use Rattle.std.specs.Prelude.{ℕ, ◌+◌, ◌*◌, ◌/◌, ◌%◌, List}
use Rattle.geometry.specs.declared.Geometry.{Geometry}
use Rattle.cells.specs.declared.Cell.{Cell}
use Rattle.cells.specs.declared.Role.{Role}
use Rattle.cells.specs.Cells.{cell}
use Rattle.cells.specs.Roles.{user_cell, user_outer, inner_of, role_of}
use Rattle.layout.specs.declared.Place.{Place}
use Rattle.layout.specs.declared.Region.{Region}
use Rattle.layout.specs.declared.Pair.{Pair}
use Rattle.layout.specs.declared.Four.{Four}
use Rattle.layout.specs.Regions.{region_of, tuple_of, position_of}

-- disk x, unit y
abbrev pub place : ℕ → ℕ → Place
place x y = record { disk = record { 0 = x }; unit = record { 0 = y } }

-- "disk d is in group d/g (whole part), column d mod g"; "unit number = part·g + row": the place of a region's row i and
-- column x
abbrev pub in_region : Geometry → Region → (i x : ℕ) → Place
in_region G a i x = place (a.group.0 * G.g + x) (a.part.0 * G.g + i)

-- the place of a cell: in the region at its position of its tuple
unfoldable pub place_of : Geometry → List ℕ → Cell → Place
place_of G d x = in_region G (region_of G d x.tuple.0 x.position) x.row x.column

-- the cell that lies at disk x, unit y [for 1 ≤ g]
unfoldable pub cell_at : Geometry → List ℕ → (x y : ℕ) → Cell
cell_at G d x y =
    cell (tuple_of G d (x / G.g) (y / G.g))
    (position_of G d (x / G.g) (tuple_of G d (x / G.g) (y / G.g)))
    (y % G.g)
    (x % G.g)

-- "The way back answers, for any disk and unit": the role of the cell there
unfoldable pub role_at : Geometry → List ℕ → (x y : ℕ) → Role
role_at G d x y = role_of G (cell_at G d x y)

-- the places of a cell and of its diagonal's parity
abbrev pub pair_of : Geometry → List ℕ → Cell → Pair
pair_of G d x = record { own = place_of G d x; inner = place_of G d (inner_of G x) }

-- the four places of user unit n: "data, outer parity, inner of data, inner of outer"
unfoldable pub four_of : Geometry → List ℕ → ℕ → Four
four_of G d n =
    record {
      user = place_of G d (user_cell G n);
      outer = place_of G d (user_outer G n);
      inner = place_of G d (inner_of G (user_cell G n));
      both = place_of G d (inner_of G (user_outer G n));
    }
