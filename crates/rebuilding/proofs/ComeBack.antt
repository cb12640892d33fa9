-- On consistent bytes every unit comes back; and what the lost disks hold does not count. Assumes nothing.
use Prim.Native.Nat.{ℕ, ◌+◌, ◌-◌, ◌<◌}
use mathlib.Core.Path.{◌≡◌, refl, sym, ap, ◌∙◌}
use mathlib.Core.Bool.{Bool, true, false, cond}
use mathlib.Core.List.{List, [], ◌∷◌}
use lib.Dec.{ltb}
use lib.ListN.{get_or, length}
use borrow.Author.Tests.{lt-ltb, ltb-true, not-true}
use Rattle.geometry.specs.declared.Geometry.{Geometry}
use Rattle.geometry.specs.Geometry.{tuples_of, bytes_of}
use Rattle.design.specs.Design.{Laid}
use Rattle.cells.specs.declared.Cell.{Cell}
use Rattle.cells.specs.Cells.{label_of, diagonal_of}
use Rattle.cells.specs.Sets.{outer_member, inner_member}
use Rattle.cells.specs.Ranges.{CellIn}
use Rattle.cells.proofs.Sets.{outer_member_in, inner_member_in, label_in, diagonal_in}
use Rattle.layout.specs.declared.Place.{Place}
use Rattle.layout.specs.Places.{place_of}
use Rattle.layout.proofs.Theorems.{cells_are_places}
use Rattle.leaves.proofs.Runs.{at_run}
use Rattle.array.specs.Array.{start_of, cell_start}
use Rattle.consistent.specs.Consistent.{outer_starts, inner_starts}
use Rattle.consistent.specs.Theorems.{BothParities}
use Rattle.consistent.proofs.Theorems.{consistent_means_both_parities}
use Rattle.peeling.specs.Peeling.{Side, byte_after}
use Rattle.peeling.specs.Theorems.{Own, AllZero, Reached, side_sum}
use Rattle.peeling.proofs.Sides.{Every}
use Rattle.peeling.proofs.Bytes.{consistent_bytes_come_back, lost_bytes_do_not_count}
use Rattle.reaching.specs.Reach.{tuple_cells_of, number_of, cell_numbered, outer_side, inner_side, sides_of, here_of, steps_of}
use Rattle.reaching.specs.Theorems.{CellsNumbered}
use Rattle.reaching.proofs.Numbers.{the_cells_of_a_tuple_are_numbered}
use Rattle.replaying.proofs.Rest.{sum_of_side}
use Rattle.replaying.proofs.Sides.{every_side, outer_side_of, inner_side_of}
use Rattle.replaying.proofs.Bytes.{byte_at}
use Rattle.rebuilding.specs.Rebuild.{rebuilt_of}
use Rattle.rebuilding.specs.Theorems.{Complete, SamePresent}
use Rattle.rebuilding.specs.Theorems.{ConsistentArraysComeBack, WhatLostDisksHoldDoesNotCount}
use Rattle.rebuilding.proofs.Bytes.{units_same, rebuilt_at, rebuilt_length}
use Rattle.rebuilding.proofs.Reasons.{all_reached}

-- a set's own, and it XORs to zero
abbrev ZeroSide : (ℕ → ℕ) → ℕ → Side → Type 0
ZeroSide b n s = Own n s × (side_sum b s s.size ≡ 0)

every_zero : (b : ℕ → ℕ) (n : ℕ) (vs : List Side) → Every (ZeroSide b n) vs → AllZero b n vs
every_zero b n [] h = tt {0}
every_zero b n (v ∷ vs) (z, h) = (z, every_zero b n vs h)

-- the bytes of tuple t's units at offset j, by their cells' numbers; 0 past its last cell
held : Geometry → List ℕ → (t j : ℕ) → List ℕ → ℕ → ℕ
held G d t j a n = cond (ltb n (tuple_cells_of G)) (byte_at G d a j (cell_numbered G t n)) 0

held_number :
    (G : Geometry) (d : List ℕ) (t j : ℕ) (a : List ℕ) (n : ℕ) → n < tuple_cells_of G →
    byte_at G d a j (cell_numbered G t n) ≡ held G d t j a n
unfolding held
held_number G d t j a n h =
    sym (ap (λ (b : Bool). cond b (byte_at G d a j (cell_numbered G t n)) 0) (lt-ltb n (tuple_cells_of G) h))

module _ (G : Geometry) (d : List ℕ) (L : Laid G d) (t : ℕ) (ht : t < tuples_of G) (j : ℕ) (low : j < G.u) where
  abbrev numbered : CellsNumbered G t
  numbered = the_cells_of_a_tuple_are_numbered G d L t ht

  held_cell : (a : List ℕ) (x : Cell) → CellIn G x → x.tuple.0 ≡ t → byte_at G d a j x ≡ held G d t j a (number_of G x)
  held_cell a x v e =
      ap (byte_at G d a j) (sym (numbered.again x v e)) ∙ held_number G d t j a (number_of G x) (numbered.low x v)

  -- what is present from the start is the same
  held_same :
      (marks a b : List ℕ) → SamePresent G marks a b → (n : ℕ) → here_of G d marks t n ≡ true →
      held G d t j a n ≡ held G d t j b n
  unfolding held here_of cell_start
  held_same marks a b same n here = go (ltb n (tuple_cells_of G)) refl
    where
      p : Place
      p = place_of G d (cell_numbered G t n)

      go :
          (c : Bool) → ltb n (tuple_cells_of G) ≡ c →
          cond c (get_or a (start_of G p + j) 0) 0 ≡ cond c (get_or b (start_of G p + j) 0) 0
      go false e = refl
      go true e =
          sym (at_run a (start_of G p) G.u j low)
          ∙ ap (λ (r : List ℕ). get_or r j 0)
          (same p ((cells_are_places G d L).there (cell_numbered G t n) (numbered.there n (ltb-true n (tuple_cells_of G) e)))
          (not-true _ here))
          ∙ at_run b (start_of G p) G.u j low

  -- both parities: every set of a cell XORs to zero
  module _ (a : List ℕ) (p : BothParities G d a) (n : ℕ) (h : n < tuple_cells_of G) where
    abbrev at : Cell
    at = cell_numbered G t n

    outer_zero : at.row < G.g - 1 → ZeroSide (held G d t j a) n (outer_side G at)
    unfolding outer_side outer_starts cell_numbered
    outer_zero r =
        let v = label_in G L.sound at (numbered.there n h) r in
        let member : ℕ → Cell = outer_member G t at.row (label_of G at) in (
          (outer_side_of G d L t ht n h r).own,
          sym
              (sum_of_side a (λ (l : ℕ). cell_start G d (member l)) j (outer_side G at) (held G d t j a) G.k
              (λ l q. held_cell a (member l) (outer_member_in G L.sound t at.row (label_of G at) l v q) refl))
              ∙ p.outer t at.row (label_of G at) v j low,
        )

    inner_zero : ZeroSide (held G d t j a) n (inner_side G at)
    unfolding inner_side inner_starts cell_numbered
    inner_zero =
        let v = diagonal_in G L.sound at (numbered.there n h) in
        let member : ℕ → Cell = inner_member G t at.position (diagonal_of G at) in (
          (inner_side_of G d L t ht n h).own,
          sym
              (sum_of_side a (λ (i : ℕ). cell_start G d (member i)) j (inner_side G at) (held G d t j a) G.g
              (λ i q. held_cell a (member i) (inner_member_in G L.sound t at.position (diagonal_of G at) i v q) refl))
              ∙ p.inner t at.position (diagonal_of G at) v j low,
        )

    sides_zero : AllZero (held G d t j a) n (sides_of G t n)
    sides_zero =
        every_zero (held G d t j a) n (sides_of G t n)
        (every_side G d L t ht (ZeroSide (held G d t j a) n) n outer_zero inner_zero)

-- ---- a unit of an array every tuple of which completes
module _ (G : Geometry) (d marks a : List ℕ) (c : Complete G d marks a) (x : Cell) (v : CellIn G x) (j : ℕ) (l : j < G.u) where
  abbrev t : ℕ
  t = x.tuple.0

  -- it has what the passes give its cell
  given :
      (b : List ℕ) → length b ≡ bytes_of G →
      byte_at G d (rebuilt_of G d marks b) j x ≡ byte_after (held G d t j b) (steps_of G d marks t) (number_of G x)
  given b long = rebuilt_at G d marks c.laid b long j l (held G d t j b) x v (held_number G d t j b)

  reached : Reached (here_of G d marks t) (sides_of G t) (tuple_cells_of G) (number_of G x)
  reached =
      all_reached G d marks t (c.complete t v.tuple) (number_of G x)
      ((the_cells_of_a_tuple_are_numbered G d c.laid t v.tuple).low x v)

  comes_back :
      (before : List ℕ) → BothParities G d before → SamePresent G marks before a →
      byte_at G d (rebuilt_of G d marks a) j x ≡ byte_at G d before j x
  unfolding steps_of
  comes_back before p same =
      given a c.whole
      ∙ consistent_bytes_come_back (here_of G d marks t) (sides_of G t) (tuple_cells_of G) (held G d t j before)
      (held G d t j a) (sides_zero G d c.laid t v.tuple j l before p)
      (λ n h. sym (held_same G d c.laid t v.tuple j l marks before a same n h)) (number_of G x) reached
      ∙ sym (held_cell G d c.laid t v.tuple j l before x v refl)

  comes_alike :
      (b : List ℕ) → length b ≡ bytes_of G → SamePresent G marks a b →
      byte_at G d (rebuilt_of G d marks a) j x ≡ byte_at G d (rebuilt_of G d marks b) j x
  unfolding steps_of
  comes_alike b long same =
      given a c.whole
      ∙ lost_bytes_do_not_count (here_of G d marks t) (sides_of G t) (tuple_cells_of G) (held G d t j a) (held G d t j b)
      (held_same G d c.laid t v.tuple j l marks a b same) (number_of G x) reached
      ∙ sym (given b long)

pub consistent_arrays_come_back : ConsistentArraysComeBack
consistent_arrays_come_back G d marks before now c long consistent same =
    units_same G d c.laid (rebuilt_of G d marks now) before (rebuilt_length G d marks c.laid now c.whole) long
    (λ x v j l.
    comes_back G d marks now c x v j l before
    ((consistent_means_both_parities G c.laid.sound d before).0 consistent) same)

pub what_lost_disks_hold_does_not_count : WhatLostDisksHoldDoesNotCount
what_lost_disks_hold_does_not_count G d marks a b c long same =
    units_same G d c.laid (rebuilt_of G d marks a) (rebuilt_of G d marks b)
    (rebuilt_length G d marks c.laid a c.whole) (rebuilt_length G d marks c.laid b long)
    (λ x v j l. comes_alike G d marks a c x v j l b long same)
