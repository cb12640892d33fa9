-- One disk marked: no set holds two units of a disk, so each lost unit is the only one that its first set lacks, and the
-- passes over a tuple are one sweep. Assumes nothing.
use Prim.Native.Nat.{ℕ, ◌-◌, ◌<◌}
use mathlib.Core.Path.{◌≡◌, refl, sym, ap, ◌∙◌}
use mathlib.Core.Bool.{Bool, true, false, not, cond}
use mathlib.Core.Logic.{⊎_elim}
use mathlib.Core.List.{List, [], ◌∷◌}
use lib.Dec.{ltb}
use lib.ListN.{get_or}
use borrow.Author.Tests.{eqb-true, ltb-true, not-false}
use Rattle.counting.proofs.Bools.{bool_either, not_is_true}
use Rattle.geometry.specs.declared.Geometry.{Geometry}
use Rattle.geometry.specs.declared.Disk.{Disk}
use Rattle.geometry.specs.Geometry.{tuples_of}
use Rattle.design.specs.Design.{Laid}
use Rattle.cells.specs.declared.Cell.{Cell}
use Rattle.cells.specs.Cells.{label_of, diagonal_of}
use Rattle.cells.specs.Sets.{outer_member, inner_member}
use Rattle.cells.specs.Ranges.{CellIn}
use Rattle.cells.proofs.Sets.{outer_member_in, inner_member_in, label_in, has_label, diagonal_in, on_diagonal}
use Rattle.layout.specs.Places.{place_of}
use Rattle.layout.specs.Marks.{lost}
use Rattle.layout.proofs.Theorems.{cells_are_places, no_outer_set_holds_two_units_of_a_disk, no_inner_set_holds_two_units_of_a_disk}
use Rattle.peeling.specs.Peeling.{Side}
use Rattle.peeling.specs.Theorems.{Rest}
use Rattle.reaching.specs.Reach.{tuple_cells_of, number_of, cell_numbered, outer_side, inner_side, sides_of, here_of, steps_of}
use Rattle.reaching.specs.Theorems.{CellsNumbered}
use Rattle.reaching.proofs.Numbers.{the_cells_of_a_tuple_are_numbered}
use Rattle.onedisk.specs.OneDisk.{OneLost, first_side}
use Rattle.onedisk.proofs.AtOnce.{missing_steps, at_once}

module _ (G : Geometry) (d marks : List ℕ) (x : ℕ) (L : Laid G d) (o : OneLost G marks x) where
  -- a lost cell lies on disk x
  pub lost_disk : (a : Cell) → CellIn G a → lost G marks (place_of G d a) ≡ true → (place_of G d a).disk.0 ≡ x
  unfolding lost
  lost_disk a v h =
      o.only (place_of G d a).disk.0 ((cells_are_places G d L).there a v).disk
      (eqb-true (get_or marks (place_of G d a).disk.0 0) 1 h)

  -- so a cell on another disk than a lost one is not lost
  pub other_stays :
      (a b : Cell) → CellIn G a → CellIn G b → lost G marks (place_of G d a) ≡ true →
      ((place_of G d b).disk ≡ (place_of G d a).disk → ⊥) → lost G marks (place_of G d b) ≡ false
  other_stays a b va vb h ne =
      ⊎_elim
      (λ (w : lost G marks (place_of G d b) ≡ true).
      absurd (ne (ap (λ (n : ℕ). the_disk n) (lost_disk b vb w ∙ sym (lost_disk a va h)))))
      (λ (w : lost G marks (place_of G d b) ≡ false). w) (bool_either (lost G marks (place_of G d b)))
    where
      the_disk : ℕ → Disk
      the_disk n = record { 0 = n }

  -- ---- the cells of one tuple
  module _ (t : ℕ) (ht : t < tuples_of G) where
    abbrev numbered : CellsNumbered G t
    numbered = the_cells_of_a_tuple_are_numbered G d L t ht

    abbrev pub first : ℕ → Side
    first n = first_side G (cell_numbered G t n)

    present_number :
        (b : Cell) → CellIn G b → b.tuple.0 ≡ t → lost G marks (place_of G d b) ≡ false →
        here_of G d marks t (number_of G b) ≡ true
    unfolding here_of
    present_number b v e h =
        ap (λ (y : Cell). not (lost G marks (place_of G d y))) (numbered.again b v e)
        ∙ not_is_true (lost G marks (place_of G d b)) h

    module _ (n : ℕ) (h : n < tuple_cells_of G) (out : lost G marks (place_of G d (cell_numbered G t n)) ≡ true) where
      abbrev at : Cell
      at = cell_numbered G t n

      v : CellIn G (cell_numbered G t n)
      v = numbered.there n h

      outer_rest : at.row < G.g - 1 → Rest (λ (y : ℕ). here_of G d marks t y ≡ true) (outer_side G at)
      unfolding outer_side cell_numbered
      outer_rest r q l ne =
          let set = label_in G L.sound at v r in
          let other : Cell = outer_member G t at.row (label_of G at) q in
          let in-set : CellIn G other = outer_member_in G L.sound t at.row (label_of G at) q set l in
          present_number other in-set refl
          (other_stays at other v in-set out
          (λ e.
          ne (ap (λ (y : Cell). y.position)
          (no_outer_set_holds_two_units_of_a_disk G d L t at.row (label_of G at) set other at (q, l, refl)
          (has_label G L.sound at v) e))))

      inner_rest : Rest (λ (y : ℕ). here_of G d marks t y ≡ true) (inner_side G at)
      unfolding inner_side cell_numbered
      inner_rest q l ne =
          let set = diagonal_in G L.sound at v in
          let other : Cell = inner_member G t at.position (diagonal_of G at) q in
          let in-set : CellIn G other = inner_member_in G L.sound t at.position (diagonal_of G at) q set l in
          present_number other in-set refl
          (other_stays at other v in-set out
          (λ e.
          ne (ap (λ (y : Cell). y.row)
          (no_inner_set_holds_two_units_of_a_disk G d L t at.position (diagonal_of G at) set other at (q, l, refl)
          (on_diagonal G L.sound at v) e))))

    -- the first set of a missing cell lacks only it
    pub first_rest :
        (n : ℕ) → n < tuple_cells_of G → here_of G d marks t n ≡ false →
        Rest (λ (y : ℕ). here_of G d marks t y ≡ true) (first n)
    unfolding first_side here_of
    first_rest n h e = go (ltb (cell_numbered G t n).row (G.g - 1)) refl
      where
        out : lost G marks (place_of G d (cell_numbered G t n)) ≡ true
        out = not-false (lost G marks (place_of G d (cell_numbered G t n))) e

        go :
            (b : Bool) → ltb (cell_numbered G t n).row (G.g - 1) ≡ b →
            Rest (λ (y : ℕ). here_of G d marks t y ≡ true)
            (cond b (outer_side G (cell_numbered G t n)) (inner_side G (cell_numbered G t n)))
        go true r = outer_rest n h out (ltb-true (cell_numbered G t n).row (G.g - 1) r)
        go false r = inner_rest n h out

    first_is : (n : ℕ) → (vs : List Side) × (sides_of G t n ≡ (first n ∷ vs))
    unfolding first_side sides_of
    first_is n = go (ltb (cell_numbered G t n).row (G.g - 1))
      where
        go :
            (b : Bool) → (vs : List Side)
            × (cond b (outer_side G (cell_numbered G t n) ∷ inner_side G (cell_numbered G t n) ∷ [])
            (inner_side G (cell_numbered G t n) ∷ [])
            ≡ (cond b (outer_side G (cell_numbered G t n)) (inner_side G (cell_numbered G t n)) ∷ vs))
        go true = (inner_side G (cell_numbered G t n) ∷ [], refl)
        go false = ([], refl)

    -- each missing cell is restored once, upwards, from its first set
    pub steps_at_once : steps_of G d marks t ≡ missing_steps (here_of G d marks t) first (tuple_cells_of G)
    unfolding steps_of
    steps_at_once =
        at_once (here_of G d marks t) first (tuple_cells_of G) first_rest (sides_of G t) (λ n h e. first_is n)
