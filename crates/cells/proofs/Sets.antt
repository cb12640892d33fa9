-- The sets over the cells: each cell is on one diagonal, and has one label unless it stands in row g-1.
use Prim.Native.Nat.{ℕ, ◌-◌, ◌<◌}
use mathlib.Core.Path.{◌≡◌, ◌∙◌, ap, sym}
use native.Mathlib.Omega.{arith}
use Rattle.geometry.specs.declared.Geometry.{Geometry}
use Rattle.geometry.specs.Geometry.{Sound}
use Rattle.region.specs.Columns.{label_column, diagonal_column}
use Rattle.region.proofs.Turns.{label_of_column, column_of_label, label_column_lt, label_at_lt}
use Rattle.region.proofs.Turns.{diagonal_of_column, column_of_diagonal, diagonal_column_lt, diagonal_at_lt, parity_column_lem}
use Rattle.numbering.specs.Ranges.{OuterIn, InnerIn}
use Rattle.cells.specs.declared.Cell.{Cell}
use Rattle.cells.specs.Cells.{cell, label_of, diagonal_of}
use Rattle.cells.specs.Sets.{outer_member, inner_member, inner_parity, InOuter, InInner}
use Rattle.cells.specs.Ranges.{CellIn}
use Rattle.cells.specs.Theorems.{OneInner, OneOuter}

module _ (G : Geometry) (s : Sound G) where
  -- the members of a set are cells, with the set's label or on the set's diagonal
  pub outer_member_in : (t i c l : ℕ) → OuterIn G t i c → l < G.k → CellIn G (outer_member G t i c l)
  outer_member_in t i c l h q =
      record { tuple = h.tuple; position = q; row = omega arith; column = label_column_lt G.g l i c (omega arith) }

  pub inner_member_in : (t l j i : ℕ) → InnerIn G t l j → i < G.g → CellIn G (inner_member G t l j i)
  inner_member_in t l j i h q =
      record {
        tuple = h.tuple;
        position = h.position;
        row = q;
        column = diagonal_column_lt G.g j i (omega arith);
      }

  pub member_label : (t i c l : ℕ) → c < G.g → l < G.k → label_of G (outer_member G t i c l) ≡ c
  member_label t i c l h q = label_of_column G.g l i c (omega arith) h

  pub member_diagonal : (t l j i : ℕ) → j < G.g → i < G.g → diagonal_of G (inner_member G t l j i) ≡ j
  member_diagonal t l j i h q = diagonal_of_column G.g i j q h

  -- equation 2: the parity of a diagonal is on it, in row g-1
  pub parity_in : (t l j : ℕ) → j < G.g → InInner G t l j (inner_parity G t l j)
  parity_in t l j h = (G.g - 1, omega arith, ap (cell t l (G.g - 1)) (sym (parity_column_lem G.g j h)))

  module _ (x : Cell) (h : CellIn G x) where
    -- a cell has its label
    pub label_column_lem : label_column G.g x.position x.row (label_of G x) ≡ x.column
    label_column_lem = column_of_label G.g x.position x.row x.column (omega arith) h.column

    pub label_in : x.row < G.g - 1 → OuterIn G x.tuple.0 x.row (label_of G x)
    label_in r =
        record { tuple = h.tuple; row = r; column = label_at_lt G.g x.position x.row x.column (omega arith) }

    pub has_label : InOuter G x.tuple.0 x.row (label_of G x) x
    has_label = (x.position, h.position, ap (cell x.tuple.0 x.position x.row) (sym label_column_lem))

    -- and no other
    pub one_outer : x.row < G.g - 1 → OneOuter G x
    one_outer r =
        record {
          tuple = x.tuple.0;
          row = x.row;
          column = label_of G x;
          valid = label_in r;
          held = has_label;
          only = λ t i c v m. (
            sym (ap (λ (y : Cell). y.tuple.0) m.2),
            sym (ap (λ (y : Cell). y.row) m.2),
            sym (ap (label_of G) m.2 ∙ member_label t i c m.0 v.column m.1),
          );
        }

    -- a cell is on its diagonal
    pub diagonal_column_lem : diagonal_column G.g (diagonal_of G x) x.row ≡ x.column
    diagonal_column_lem = column_of_diagonal G.g x.row x.column h.row h.column

    pub diagonal_in : InnerIn G x.tuple.0 x.position (diagonal_of G x)
    diagonal_in =
        record {
          tuple = h.tuple;
          position = h.position;
          diagonal = diagonal_at_lt G.g x.row x.column (omega arith);
        }

    pub on_diagonal : InInner G x.tuple.0 x.position (diagonal_of G x) x
    on_diagonal = (x.row, h.row, ap (cell x.tuple.0 x.position x.row) (sym diagonal_column_lem))

    -- and on no other
    pub one_inner : OneInner G x
    one_inner =
        record {
          tuple = x.tuple.0;
          position = x.position;
          diagonal = diagonal_of G x;
          valid = diagonal_in;
          held = on_diagonal;
          only = λ t l j v m. (
            sym (ap (λ (y : Cell). y.tuple.0) m.2),
            sym (ap (λ (y : Cell). y.position) m.2),
            sym (ap (diagonal_of G) m.2 ∙ member_diagonal t l j m.0 v.diagonal m.1),
          );
        }
