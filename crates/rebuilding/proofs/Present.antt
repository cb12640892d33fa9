-- "Units of present disks don't change." Assumes nothing.
use Prim.Native.Nat.{ℕ, ◌+◌, ◌≤◌, ◌<◌}
use mathlib.Core.Path.{◌≡◌, refl, sym, ap, subst, ◌∙◌}
use mathlib.Core.Bool.{true, false, not}
use mathlib.Core.Logic.{⊎_elim}
use mathlib.Core.List.{List}
use native.Mathlib.Omega.{arith}
use lib.ListN.{get_or, length}
use Rattle.counting.proofs.Bools.{bool_either, bool_not_both, not_is_true}
use Rattle.geometry.specs.declared.Geometry.{Geometry}
use Rattle.geometry.specs.Geometry.{bytes_of}
use Rattle.design.specs.Design.{Laid}
use Rattle.cells.specs.declared.Cell.{Cell}
use Rattle.cells.specs.Ranges.{CellIn}
use Rattle.layout.specs.declared.Place.{Place}
use Rattle.layout.specs.Places.{place_of}
use Rattle.layout.specs.Ranges.{PlaceIn}
use Rattle.layout.specs.Marks.{lost}
use Rattle.layout.specs.Theorems.{place_cell}
use Rattle.layout.proofs.Theorems.{cells_are_places}
use Rattle.leaves.proofs.Runs.{bytes_run, same_bytes}
use Rattle.array.specs.Array.{start_of, cell_start}
use Rattle.array.proofs.Starts.{start_in}
use Rattle.peeling.specs.Peeling.{restored}
use Rattle.peeling.proofs.Counts.{each_cell_is_restored_once}
use Rattle.peeling.proofs.Bytes.{byte_not_restored}
use Rattle.reaching.specs.Reach.{tuple_cells_of, number_of, cell_numbered, sides_of, here_of, steps_of}
use Rattle.reaching.specs.Theorems.{CellsNumbered}
use Rattle.reaching.proofs.Numbers.{the_cells_of_a_tuple_are_numbered}
use Rattle.replaying.proofs.Bytes.{byte_at}
use Rattle.rebuilding.specs.Rebuild.{rebuilt_of}
use Rattle.rebuilding.specs.Theorems.{unit_at, PresentStay, UnitsOfPresentDisksStay}
use Rattle.rebuilding.proofs.Bytes.{rebuilt_at, rebuilt_length}

module _ (G : Geometry) (d marks : List ℕ) (L : Laid G d) where
  -- a cell whose disk is present is not restored
  not_restored :
      (x : Cell) → CellIn G x → lost G marks (place_of G d x) ≡ false →
      restored (steps_of G d marks x.tuple.0) (number_of G x) ≡ false
  unfolding steps_of here_of
  not_restored x v e =
      ⊎_elim
      (λ (r : restored (steps_of G d marks x.tuple.0) (number_of G x) ≡ true).
      bool_not_both (here_of G d marks x.tuple.0 (number_of G x)) here
      ((each_cell_is_restored_once (here_of G d marks x.tuple.0) (sides_of G x.tuple.0) (tuple_cells_of G)).missing
      (number_of G x) r))
      (λ (r : restored (steps_of G d marks x.tuple.0) (number_of G x) ≡ false). r)
      (bool_either (restored (steps_of G d marks x.tuple.0) (number_of G x)))
    where
      numbered : CellsNumbered G x.tuple.0
      numbered = the_cells_of_a_tuple_are_numbered G d L x.tuple.0 v.tuple

      here : here_of G d marks x.tuple.0 (number_of G x) ≡ true
      here =
          ap (λ (y : Cell). not (lost G marks (place_of G d y))) (numbered.again x v refl)
          ∙ not_is_true (lost G marks (place_of G d x)) e

  module _ (a : List ℕ) (long : length a ≡ bytes_of G) where
    cell_stays :
        (x : Cell) → CellIn G x → lost G marks (place_of G d x) ≡ false → (j : ℕ) → j < G.u →
        byte_at G d (rebuilt_of G d marks a) j x ≡ byte_at G d a j x
    cell_stays x v e j l =
        rebuilt_at G d marks L a long j l held x v (λ m q. refl)
        ∙ byte_not_restored held (steps_of G d marks x.tuple.0) (number_of G x) (not_restored x v e)
        ∙ ap (byte_at G d a j) (numbered.again x v refl)
      where
        numbered : CellsNumbered G x.tuple.0
        numbered = the_cells_of_a_tuple_are_numbered G d L x.tuple.0 v.tuple

        held : ℕ → ℕ
        held m = byte_at G d a j (cell_numbered G x.tuple.0 m)

    unit_stays : (p : Place) → PlaceIn G p → lost G marks p ≡ false → unit_at G a p ≡ unit_at G (rebuilt_of G d marks a) p
    unfolding cell_start
    unit_stays p h e =
        let inside : start_of G p + G.u ≤ bytes_of G = start_in G p h in
        let w = cells_are_places G d L in
        let x : Cell = place_cell G d p in
        let is : place_of G d x ≡ p = w.again p h in
        let out : lost G marks (place_of G d x) ≡ false = ap (lost G marks) is ∙ e in
        same_bytes (bytes_run a (start_of G p) G.u (omega (arith, long)))
        (bytes_run (rebuilt_of G d marks a) (start_of G p) G.u (omega (arith, rebuilt_length G d marks L a long)))
        (λ (j : ℕ) (l : j < G.u).
        subst (λ (q : Place). get_or a (start_of G q + j) 0 ≡ get_or (rebuilt_of G d marks a) (start_of G q + j) 0) is
        (sym (cell_stays x (w.here p h) out j l)))

    pub present_stay : PresentStay G marks a (rebuilt_of G d marks a)
    present_stay = record { long = rebuilt_length G d marks L a long ∙ sym long; same = unit_stays }

pub units_of_present_disks_stay : UnitsOfPresentDisksStay
units_of_present_disks_stay G d marks a c = present_stay G d marks c.laid a c.whole
