-- The cells of a tuple and their numbers: k positions of g rows of g columns. Assumes nothing.
use Prim.Native.Nat.{ℕ, ◌+◌, ◌*◌, ◌/◌, ◌%◌, ◌<◌}
use mathlib.Core.Path.{◌≡◌, ap}
use native.Mathlib.Nat.{mod-lt, div-add-mod', div-lt_iff_lt-mul}
use native.Mathlib.Omega.{arith}
use lib.Arith.{digits_lt, digits_div, digits_mod}
use Rattle.geometry.specs.declared.Geometry.{Geometry}
use Rattle.geometry.specs.Geometry.{Sound, tuples_of}
use Rattle.cells.specs.declared.Cell.{Cell}
use Rattle.cells.specs.Cells.{cell}
use Rattle.cells.specs.Ranges.{CellIn}
use Rattle.cells.proofs.Sets.{label_column_lem, diagonal_column_lem}
use Rattle.reaching.specs.Reach.{tuple_cells_of, number_of, cell_numbered, outer_side, inner_side}
use Rattle.reaching.specs.Theorems.{TheCellsOfATupleAreNumbered, ACellStandsInItsSets}

module _ (G : Geometry) (s : Sound G) (t : ℕ) where
  pub cell_in : t < tuples_of G → (n : ℕ) → n < tuple_cells_of G → CellIn G (cell_numbered G t n)
  unfolding tuple_cells_of cell_numbered
  cell_in b n h =
      let g0 : 0 < G.g = omega arith in
      record {
        tuple = b;
        position = (div-lt_iff_lt-mul g0).1 ((div-lt_iff_lt-mul g0).1 h);
        row = mod-lt (n / G.g) g0;
        column = mod-lt n g0;
      }

  pub number_of_cell : (n : ℕ) → number_of G (cell_numbered G t n) ≡ n
  unfolding number_of cell_numbered
  number_of_cell n = rw (div-add-mod' (n / G.g) G.g) (div-add-mod' n G.g)

module _ (G : Geometry) (x : Cell) (h : CellIn G x) where
  pub number_low : number_of G x < tuple_cells_of G
  unfolding number_of tuple_cells_of
  number_low = digits_lt (digits_lt h.position h.row) h.column

  over_column : number_of G x / G.g ≡ x.position * G.g + x.row
  unfolding number_of
  over_column = digits_div _ h.column

  on_column : number_of G x % G.g ≡ x.column
  unfolding number_of
  on_column = digits_mod _ h.column

  pub cell_of_number : (t : ℕ) → x.tuple.0 ≡ t → cell_numbered G t (number_of G x) ≡ x
  unfolding cell_numbered
  cell_of_number t e = rw (← e, over_column, digits_div x.position h.row, digits_mod x.position h.row, on_column)

pub the_cells_of_a_tuple_are_numbered : TheCellsOfATupleAreNumbered
the_cells_of_a_tuple_are_numbered G d l t b =
    record {
      there = cell_in G l.sound t b;
      back = λ (n : ℕ) (_ : n < tuple_cells_of G). number_of_cell G l.sound t n;
      low = number_low G;
      again = λ (x : Cell) (h : CellIn G x). cell_of_number G x h t;
    }

pub a_cell_stands_in_its_sets : ACellStandsInItsSets
unfolding outer_side inner_side
a_cell_stands_in_its_sets G d l x h =
    record {
      outer = record { low = h.position; is = ap (λ (c : ℕ). number_of G (cell x.tuple.0 x.position x.row c)) (label_column_lem G l.sound x h) };
      inner = record { low = h.row; is = ap (λ (c : ℕ). number_of G (cell x.tuple.0 x.position x.row c)) (diagonal_column_lem G l.sound x h) };
    }
