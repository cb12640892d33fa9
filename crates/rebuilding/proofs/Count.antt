-- "the count of restored units is returned, which is the number of units on lost disks": cells and places are one to one.
-- Assumes nothing.
use Prim.Native.Nat.{ℕ, zero, suc, ◌+◌, ◌*◌, ◌/◌, ◌%◌, ◌≤◌, ◌<◌}
use mathlib.Core.Path.{◌≡◌, refl, sym, ap, ap₂, ◌∙◌}
use mathlib.Core.Bool.{Bool, true, false, not}
use mathlib.Core.List.{List}
use native.Mathlib.Nat.{mod-lt, div-add-mod', div-lt_iff_lt-mul, mul-zero, mul-suc}
use native.Mathlib.Omega.{arith}
use lib.Arith.{digits_lt, digits_div, digits_mod}
use lib.Dec.{eqb}
use lib.ListN.{get_or, length}
use Rattle.counting.specs.Counting.{count_below}
use Rattle.counting.proofs.Laws.{count_zero, count_same}
use Rattle.counting.proofs.Sums.{sum_below, one_if, sum_same, sum_scaled, count_next, count_as_sum}
use Rattle.counting.proofs.Bijections.{OneToOne, count_one_to_one, count_digits}
use Rattle.geometry.specs.declared.Geometry.{Geometry}
use Rattle.geometry.specs.Geometry.{tuples_of, disks_of, units_of}
use Rattle.design.specs.Design.{Laid}
use Rattle.cells.specs.declared.Cell.{Cell}
use Rattle.cells.specs.Ranges.{CellIn}
use Rattle.layout.specs.declared.Place.{Place}
use Rattle.layout.specs.Places.{place, place_of}
use Rattle.layout.specs.Ranges.{PlaceIn}
use Rattle.layout.specs.Marks.{lost}
use Rattle.layout.specs.Theorems.{place_cell}
use Rattle.layout.proofs.Theorems.{cells_are_places}
use Rattle.array.proofs.Starts.{unit_number, unit_number_lt}
use Rattle.consistent.proofs.Units.{factor_pos, unit_place}
use Rattle.peeling.proofs.Counts.{the_count_where_all_are_reached}
use Rattle.reaching.specs.Reach.{tuple_cells_of, number_of, cell_numbered, sides_of, here_of, steps_of}
use Rattle.reaching.proofs.Numbers.{the_cells_of_a_tuple_are_numbered}
use Rattle.completing.specs.Theorems.{lost_disks}
use Rattle.rebuilding.specs.Rebuild.{restored_below, restored_of}
use Rattle.rebuilding.specs.Theorems.{Complete, TheCountIsOfTheUnitsOnLostDisks}
use Rattle.rebuilding.proofs.Reasons.{all_reached}

-- ---- the cells of all tuples and the units of all disks, numbered
module _ (G : Geometry) (d : List ℕ) (L : Laid G d) where
  abbrev cell_at : ℕ → Cell
  cell_at c = cell_numbered G (c / tuple_cells_of G) (c % tuple_cells_of G)

  abbrev cell_number : Cell → ℕ
  cell_number x = x.tuple.0 * tuple_cells_of G + number_of G x

  abbrev place_at : ℕ → Place
  place_at e = place (e / units_of G) (e % units_of G)

  module _ (c : ℕ) (h : c < tuples_of G * tuple_cells_of G) where
    pos : 0 < tuple_cells_of G
    pos = factor_pos (tuples_of G) (tuple_cells_of G) c h

    tuple_low : c / tuple_cells_of G < tuples_of G
    tuple_low = (div-lt_iff_lt-mul pos).1 h

    cell_in : CellIn G (cell_at c)
    cell_in =
        (the_cells_of_a_tuple_are_numbered G d L (c / tuple_cells_of G) tuple_low).there (c % tuple_cells_of G) (mod-lt c pos)

    cell_number_lem : cell_number (cell_at c) ≡ c
    unfolding cell_numbered
    cell_number_lem =
        ap (λ (n : ℕ). c / tuple_cells_of G * tuple_cells_of G + n)
        ((the_cells_of_a_tuple_are_numbered G d L (c / tuple_cells_of G) tuple_low).back (c % tuple_cells_of G) (mod-lt c pos))
        ∙ div-add-mod' c (tuple_cells_of G)

  module _ (x : Cell) (v : CellIn G x) where
    number_low : number_of G x < tuple_cells_of G
    number_low = (the_cells_of_a_tuple_are_numbered G d L x.tuple.0 v.tuple).low x v

    cell_of_number : cell_at (cell_number x) ≡ x
    cell_of_number =
        ap₂ (cell_numbered G) (digits_div x.tuple.0 number_low) (digits_mod x.tuple.0 number_low)
        ∙ (the_cells_of_a_tuple_are_numbered G d L x.tuple.0 v.tuple).again x v refl

  place_of_number : (p : Place) → PlaceIn G p → place_at (unit_number G p) ≡ p
  place_of_number p h = ap₂ place (digits_div p.disk.0 h.unit) (digits_mod p.disk.0 h.unit)

  -- each cell has one place and each place one cell
  cells_places :
      OneToOne (tuples_of G * tuple_cells_of G) (disks_of G * units_of G) (λ (c : ℕ). unit_number G (place_of G d (cell_at c)))
      (λ (e : ℕ). cell_number (place_cell G d (place_at e)))
  cells_places =
      let w = cells_are_places G d L in
      record {
        there_low = λ c h. unit_number_lt G (place_of G d (cell_at c)) (w.there (cell_at c) (cell_in c h));
        back_low =
            λ e h.
            let v = w.here (place_at e) (unit_place G d L e h) in
            digits_lt v.tuple (number_low (place_cell G d (place_at e)) v);
        there_back =
            λ c h.
            ap (λ (p : Place). cell_number (place_cell G d p))
            (place_of_number (place_of G d (cell_at c)) (w.there (cell_at c) (cell_in c h)))
            ∙ ap cell_number (w.back (cell_at c) (cell_in c h))
            ∙ cell_number_lem c h;
        back_there =
            λ e h.
            ap (λ (x : Cell). unit_number G (place_of G d x))
            (cell_of_number (place_cell G d (place_at e)) (w.here (place_at e) (unit_place G d L e h)))
            ∙ ap (unit_number G) (w.again (place_at e) (unit_place G d L e h))
            ∙ div-add-mod' e (units_of G);
      }

  -- the lost cells of all tuples are the units of the lost disks
  pub lost_cells :
      (marks : List ℕ) →
      sum_below (λ (t : ℕ). count_below (λ (n : ℕ). lost G marks (place_of G d (cell_numbered G t n))) (tuple_cells_of G)) (tuples_of G)
      ≡ sum_below (λ (x : ℕ). count_below (λ (y : ℕ). lost G marks (place x y)) (units_of G)) (disks_of G)
  lost_cells marks =
      count_digits (λ (t n : ℕ). lost G marks (place_of G d (cell_numbered G t n))) (tuples_of G) (tuple_cells_of G)
      ∙ count_one_to_one (λ (c : ℕ). lost G marks (place_of G d (cell_at c))) (λ (e : ℕ). lost G marks (place_at e))
      (tuples_of G * tuple_cells_of G) (disks_of G * units_of G) (λ (c : ℕ). unit_number G (place_of G d (cell_at c)))
      (λ (e : ℕ). cell_number (place_cell G d (place_at e))) cells_places
      (λ c h.
      ap (lost G marks)
      (sym (place_of_number (place_of G d (cell_at c)) ((cells_are_places G d L).there (cell_at c) (cell_in c h)))))
      ∙ sym (count_digits (λ (x y : ℕ). lost G marks (place x y)) (disks_of G) (units_of G))

-- ---- the counts
-- a test that does not depend on the number
count_const : (b : Bool) (n : ℕ) → count_below (λ (i : ℕ). b) n ≡ one_if b * n
count_const b zero = count_zero (λ (i : ℕ). b) ∙ sym (mul-zero (one_if b))
count_const b (suc n) = omega (arith, count_next (λ (i : ℕ). b) n, count_const b n, mul-suc (one_if b) n)

-- the units of a lost disk are all lost
lost_units :
    (G : Geometry) (marks : List ℕ) →
    sum_below (λ (x : ℕ). count_below (λ (y : ℕ). lost G marks (place x y)) (units_of G)) (disks_of G)
    ≡ lost_disks G marks * units_of G
unfolding lost
lost_units G marks =
    sum_same (λ (x : ℕ). count_below (λ (y : ℕ). out x) (units_of G)) (λ (x : ℕ). one_if (out x) * units_of G) (disks_of G)
    (λ x h. count_const (out x) (units_of G))
    ∙ sum_scaled (λ (x : ℕ). one_if (out x)) (units_of G) (disks_of G)
    ∙ ap (λ (n : ℕ). n * units_of G) (sym (count_as_sum out (disks_of G)))
  where
    out : ℕ → Bool
    out x = eqb (get_or marks x 0) 1

not_not : (b : Bool) → not (not b) ≡ b
not_not true = refl
not_not false = refl

module _ (G : Geometry) (d marks a : List ℕ) (c : Complete G d marks a) where
  -- in a tuple that completes, as many cells are restored as were lost
  steps_count :
      (t : ℕ) → t < tuples_of G →
      length (steps_of G d marks t)
      ≡ count_below (λ (n : ℕ). lost G marks (place_of G d (cell_numbered G t n))) (tuple_cells_of G)
  unfolding steps_of here_of
  steps_count t h =
      the_count_where_all_are_reached (here_of G d marks t) (sides_of G t) (tuple_cells_of G)
      (all_reached G d marks t (c.complete t h))
      ∙ count_same (λ (n : ℕ). not (here_of G d marks t n)) (λ (n : ℕ). lost G marks (place_of G d (cell_numbered G t n)))
      (tuple_cells_of G) (λ n q. not_not (lost G marks (place_of G d (cell_numbered G t n))))

  restored_below_lem :
      (n : ℕ) → n ≤ tuples_of G →
      restored_below G d marks n
      ≡ sum_below (λ (t : ℕ). count_below (λ (m : ℕ). lost G marks (place_of G d (cell_numbered G t m))) (tuple_cells_of G)) n
  unfolding restored_below sum_below
  restored_below_lem zero h = refl
  restored_below_lem (suc n) h = ap₂ (λ (x y : ℕ). x + y) (restored_below_lem n (omega arith)) (steps_count n (omega arith))

pub the_count_is_of_the_units_on_lost_disks : TheCountIsOfTheUnitsOnLostDisks
unfolding restored_of
the_count_is_of_the_units_on_lost_disks G d marks a c =
    restored_below_lem G d marks a c (tuples_of G) (omega arith) ∙ lost_cells G d c.laid marks ∙ lost_units G marks
