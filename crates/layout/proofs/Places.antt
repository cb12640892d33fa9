-- A cell and its place are inverse: 01, "disk d is in group d/g (whole part), column d mod g"; "unit number = part·g + row".
-- Assumes nothing.
use Prim.Native.Nat.{ℕ, ◌/◌, ◌%◌, ◌<◌}
use mathlib.Core.Path.{◌≡◌, ◌∙◌, ap}
use mathlib.Core.List.{List}
use native.Mathlib.Nat.{mod-lt, div-add-mod', div-lt_iff_lt-mul}
use native.Mathlib.Omega.{arith}
use lib.Arith.{digits_lt, digits_div, digits_mod}
use Rattle.geometry.specs.declared.Geometry.{Geometry}
use Rattle.geometry.specs.Geometry.{parts_of, disks_of, units_of}
use Rattle.design.specs.Design.{group_at, Laid}
use Rattle.cells.specs.declared.Cell.{Cell}
use Rattle.cells.specs.Ranges.{CellIn}
use Rattle.layout.specs.declared.Region.{Region}
use Rattle.layout.specs.Regions.{part_of}
use Rattle.layout.specs.Places.{place, in_region, place_of, cell_at}
use Rattle.layout.specs.Ranges.{RegionIn, PlaceIn}
use Rattle.layout.proofs.Regions.{group_lt, part_lt, tuple_back, position_back, region_in, region_back}

module _ (G : Geometry) (d : List ℕ) (L : Laid G d) where
  g_pos : 0 < G.g
  g_pos = omega arith

  module _ (x : Cell) (h : CellIn G x) where
    at : RegionIn G x.tuple.0 x.position
    at = record { tuple = h.tuple; position = h.position }

    pub place_in : PlaceIn G (place_of G d x)
    unfolding place_of disks_of units_of parts_of
    place_in =
        record {
          disk = digits_lt (group_lt G d L x.tuple.0 x.position at) h.column;
          unit = digits_lt (part_lt G d L x.tuple.0 x.position at) h.row;
        }

    pub cell_at_place : cell_at G d (place_of G d x).disk.0 (place_of G d x).unit.0 ≡ x
    unfolding place_of cell_at
    cell_at_place =
        let a : ℕ = group_at G.k d x.tuple.0 x.position in
        rw (
          digits_div a h.column,
          digits_mod a h.column,
          digits_div (part_of G d a x.tuple.0) h.row,
          digits_mod (part_of G d a x.tuple.0) h.row,
          position_back G d L x.tuple.0 x.position at,
          tuple_back G d L x.tuple.0 x.position at,
        )

  -- from disk x, unit y
  module _ (x y : ℕ) (hx : x < disks_of G) (hy : y < units_of G) where
    pub disk_group : x / G.g < G.v
    unfolding disks_of
    disk_group = (div-lt_iff_lt-mul g_pos).1 hx

    pub unit_part : y / G.g < parts_of G
    unfolding units_of parts_of
    unit_part = (div-lt_iff_lt-mul g_pos).1 hy

    pub cell_at_in : CellIn G (cell_at G d x y)
    unfolding cell_at
    cell_at_in =
        let at = region_in G d L (x / G.g) (y / G.g) disk_group unit_part in
        record { tuple = at.tuple; position = at.position; row = mod-lt y g_pos; column = mod-lt x g_pos }

    pub place_of_cell : place_of G d (cell_at G d x y) ≡ place x y
    unfolding place_of cell_at
    place_of_cell =
        ap (λ (a : Region). in_region G a (y % G.g) (x % G.g))
        (region_back G d L (x / G.g) (y / G.g) disk_group unit_part)
        ∙ rw (div-add-mod' x G.g, div-add-mod' y G.g)
