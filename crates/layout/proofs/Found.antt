-- What the scans find is what 01 names: a region's group and part, and the cell at a place. Assumes nothing.
use Prim.Native.Nat.{ℕ, ◌+◌, ◌*◌, ◌/◌, ◌%◌, ◌≤◌, ◌<◌}
use mathlib.Core.Path.{◌≡◌, refl, ◌∙◌}
use mathlib.Core.List.{List}
use native.Mathlib.Nat.{mul-le-mul_right, div-le_self}
use native.Mathlib.Omega.{arith}
use lib.ListN.{get_or, length}
use borrow.Author.Tests.{lt-ltb}
use borrow.Author.Rules.{rules}
use Rattle.std.specs.Prelude.{Some, IsSome}
use Rattle.counting.specs.Counting.{count_below, first_below}
use Rattle.geometry.specs.declared.Geometry.{Geometry}
use Rattle.geometry.specs.Geometry.{Sound, tuples_of, disks_of, units_of}
use Rattle.geometry.proofs.Laws.{entries_bound, disks_bound, units_bound}
use Rattle.design.specs.Design.{group_at, Laid}
use Rattle.design.proofs.Entries.{is_entry, entry_of, entries_count, PartEntry, part_entry}
use Rattle.numbering.specs.declared.Digits.{Digits}
use Rattle.numbering.specs.Numbering.{digits_of}
use Rattle.cells.specs.declared.Cell.{Cell}
use Rattle.cells.specs.Cells.{cell}
use Rattle.cells.specs.Roles.{data_cell, parity_cell, user_cell, user_outer, inner_of}
use Rattle.layout.specs.declared.Place.{Place}
use Rattle.layout.specs.declared.Region.{Region}
use Rattle.layout.specs.declared.Pair.{Pair}
use Rattle.layout.specs.Regions.{region, part_of, tuple_of, position_of, region_of}
use Rattle.layout.specs.Places.{in_region, place_of, cell_at, pair_of, four_of}
use Rattle.layout.specs.Ranges.{RegionIn}
use Rattle.layout.proofs.Scanned.{is_part}
use Rattle.layout.proofs.Regions.{part_in_rows}
use Rattle.layout.proofs.Places.{disk_group, unit_part}

entries_high : (G : Geometry) → Sound G → tuples_of G * G.k ≤ 8190
unfolding tuples_of
entries_high G s = entries_bound G.v G.k s.limits

-- a row's end is within the list
pub row_within :
    (G : Geometry) → Sound G → (t : ℕ) → t < tuples_of G →
    (t * G.k + G.k ≤ tuples_of G * G.k) × (t * G.k + G.k ≤ 8190)
row_within G s t h =
    let within : t * G.k + G.k ≤ tuples_of G * G.k = omega (arith, mul-le-mul_right G.k h) in
    (within, omega (arith, entries_high G s))

module _ (G : Geometry) (d : List ℕ) (L : Laid G d) where
  -- the group read at its entry, and the part counted up to its row
  pub region_found :
      (t l start a n : ℕ) → RegionIn G t l → start ≡ t * G.k → a ≡ get_or d (start + l) 0
      → n ≡ count_below (is_entry d a) start
      → region a n ≡ region_of G d t l
  unfolding group_at part_of
  region_found t l start a n h s e f =
      let group : a ≡ group_at G.k d t l = rw (← s) e in
      let part : n ≡ part_of G d a t = f ∙ rw s (entries_count G.v G.k (tuples_of G) d L.design a t (omega (arith, h.tuple))) in
      rw (part, group)

  -- a place's group and part are small
  pub scan_small :
      (x y : ℕ) → x < disks_of G → y < units_of G → (length d ≤ 8190) × (x / G.g ≤ 65535) × (y / G.g ≤ 65535)
  scan_small x y hx hy = (
    omega (arith, L.design.size, entries_high G L.sound),
    omega (arith, div-le_self x G.g, disks_bound G L.sound),
    omega (arith, div-le_self y G.g, units_bound G L.sound),
  )

  -- the entry of the group's part, taken apart into row and position
  module _ (x y : ℕ) (hx : x < disks_of G) (hy : y < units_of G) where
    there : PartEntry G.k (tuples_of G) d (x / G.g) (y / G.g)
    there =
        part_entry G.v G.k (tuples_of G) d L.design (x / G.g) (y / G.g)
        (part_in_rows G d L (x / G.g) (y / G.g) (disk_group G d L x y hx hy) (unit_part G d L x y hx hy))

    entry_is : first_below (is_part d (x / G.g) (y / G.g)) (length d) ≡ Some (entry_of G.k (tuples_of G) d (x / G.g) (y / G.g))
    entry_is = rw (L.design.size, lt-ltb _ _ there.entry_lt) refl

    pub entry_there : IsSome (first_below (is_part d (x / G.g) (y / G.g)) (length d))
    entry_there = rw entry_is (search rules)

    module _ (e : ℕ) (found : Some e ≡ first_below (is_part d (x / G.g) (y / G.g)) (length d)) where
      at_entry : e ≡ entry_of G.k (tuples_of G) d (x / G.g) (y / G.g)
      at_entry = let h = entry_is in cc

      pub cell_found : cell (e / G.k) (e % G.k) (y % G.g) (x % G.g) ≡ cell_at G d x y
      unfolding cell_at tuple_of position_of
      cell_found = rw (at_entry, there.entry_row, there.entry_position)

      pub entry_high : e ≤ 8190
      entry_high = omega (arith, at_entry, there.entry_lt, entries_high G L.sound)

-- a cell lies in its region, at its row and column
module _ (G : Geometry) (d : List ℕ) (x : Cell) (a : Region) (region : a ≡ region_of G d x.tuple.0 x.position) where
  pub place_found : (p : Place) → p ≡ in_region G a x.row x.column → p ≡ place_of G d x
  unfolding place_of
  place_found p e = rw (e, region)

  -- and so does its inner parity
  pub inner_found : (y : Cell) (p : Place) → y ≡ inner_of G x → p ≡ in_region G a y.row y.column → p ≡ place_of G d (inner_of G x)
  unfolding place_of inner_of
  inner_found y p f e = rw (e, f, region)

-- the places of the data and of the outer parity, each with its inner parity, are the four
pub four_found :
    (G : Geometry) (d : List ℕ) (n : ℕ) (s : Digits) (x y : Cell) (p q : Pair)
    → s ≡ digits_of G n → x ≡ data_cell G s → y ≡ parity_cell G s → p ≡ pair_of G d x → q ≡ pair_of G d y
    → record { user = p.own; outer = q.own; inner = p.inner; both = q.inner } ≡ four_of G d n
unfolding four_of user_cell user_outer
four_found G d n s x y p q digits data-cell parity-cell of-data of-parity = rw (of-data, of-parity, data-cell, parity-cell, digits)
