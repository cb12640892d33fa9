-- The sets of a tuple from where its regions begin: their units lie apart, and they are the sets that the log's entries name.
-- Assumes nothing.
use Prim.Native.Nat.{ℕ, ◌*◌, ◌/◌, ◌<◌}
use mathlib.Core.Path.{◌≡◌, refl, sym, ap, subst⁻¹, ◌∙◌}
use mathlib.Core.List.{List}
use native.Mathlib.Omega.{arith}
use lib.ListN.{get_or}
use Rattle.geometry.specs.declared.Geometry.{Geometry}
use Rattle.geometry.specs.Geometry.{tuples_of, bytes_of}
use Rattle.design.specs.Design.{Laid}
use Rattle.cells.specs.declared.Cell.{Cell}
use Rattle.cells.specs.Cells.{label_of, diagonal_of}
use Rattle.cells.specs.Sets.{outer_member, inner_member}
use Rattle.cells.specs.Ranges.{CellIn}
use Rattle.region.proofs.Turns.{label_column_lt, diagonal_column_lt}
use Rattle.array.specs.Array.{cell_start}
use Rattle.consistent.specs.Consistent.{outer_starts, inner_starts}
use Rattle.consistent.proofs.Numbers.{outer_length, inner_length, cells_inside, cells_spread}
use Rattle.sets.specs.Starts.{region_starts, label_starts, diagonal_starts}
use Rattle.sets.proofs.Starts.{same_elements, regions_fit, label_starts_are, diagonal_starts_are}
use Rattle.reaching.specs.Reach.{tuple_cells_of, number_of, cell_numbered, outer_side, inner_side}
use Rattle.reaching.specs.declared.Kind.{Kind}
use Rattle.reaching.specs.declared.Kind.TheVariants.{Outer, Inner}
use Rattle.reaching.specs.State.{kind_side, kind_in, step_of}
use Rattle.reaching.specs.Theorems.{CellsNumbered}
use Rattle.reaching.proofs.Numbers.{the_cells_of_a_tuple_are_numbered}
use Rattle.restoring.specs.Restore.{restored_in, OneOf}
use Rattle.replaying.specs.Replay.{side_starts, step_bytes}
use Rattle.replaying.specs.Steps.{RegionsApart, cell_bytes, entry_bytes}

module _ (G : Geometry) (d : List ℕ) (L : Laid G d) (t : ℕ) (ht : t < tuples_of G) where
  abbrev numbered : CellsNumbered G t
  numbered = the_cells_of_a_tuple_are_numbered G d L t ht

  -- the units of a row's labels and of a diagonal are cells: row g-1 too, which has no label
  outer_in : (i c l : ℕ) → i < G.g → l < G.k → CellIn G (outer_member G t i c l)
  outer_in i c l h k =
      record { tuple = ht; position = k; row = h; column = label_column_lt G.g l i c (omega arith) }

  inner_in : (l j i : ℕ) → l < G.k → i < G.g → CellIn G (inner_member G t l j i)
  inner_in l j i k h =
      record { tuple = ht; position = k; row = h; column = diagonal_column_lt G.g j i (omega arith) }

  -- ---- they lie apart
  outer_one : (i c l : ℕ) → i < G.g → l < G.k → OneOf (bytes_of G) (outer_starts G d t i c) l G.u
  unfolding outer_starts
  outer_one i c l h k =
      record {
        inside = cells_inside G d (outer_member G t i c) G.k L (λ m. outer_in i c m h) (bytes_of G) refl;
        spread = cells_spread G d (outer_member G t i c) G.k L (λ m. outer_in i c m h)
            (λ m n p q. ap (λ (x : Cell). x.position));
        below = omega (arith, outer_length G d t i c);
      }

  inner_one : (l j i : ℕ) → l < G.k → i < G.g → OneOf (bytes_of G) (inner_starts G d t l j) i G.u
  unfolding inner_starts
  inner_one l j i k h =
      record {
        inside = cells_inside G d (inner_member G t l j) G.g L (λ m. inner_in l j m k) (bytes_of G) refl;
        spread = cells_spread G d (inner_member G t l j) G.g L (λ m. inner_in l j m k)
            (λ m n p q. ap (λ (x : Cell). x.row));
        below = omega (arith, inner_length G d t l j);
      }

  pub regions_apart : RegionsApart G (region_starts G d t)
  regions_apart =
      record {
        fit = regions_fit G d t L ht;
        label = λ i c l h k.
            subst⁻¹ (λ (ps : List ℕ). OneOf (bytes_of G) ps l G.u) (label_starts_are G d t i c) (outer_one i c l h k);
        diagonal = λ l j i k h.
            subst⁻¹ (λ (ps : List ℕ). OneOf (bytes_of G) ps i G.u) (diagonal_starts_are G d t l j k)
            (inner_one l j i k h);
      }

  -- ---- they are the sets of the tuple's cells
  module _ (x : Cell) (v : CellIn G x) (e : x.tuple.0 ≡ t) where
    label_side : label_starts G (region_starts G d t) x.row (label_of G x) ≡ side_starts G d t (outer_side G x)
    unfolding side_starts outer_side outer_starts
    label_side =
        label_starts_are G d t x.row (label_of G x)
        ∙ same_elements (λ (l : ℕ). cell_start G d (outer_member G t x.row (label_of G x) l))
        (λ (l : ℕ). cell_start G d (cell_numbered G t (number_of G (outer_member G x.tuple.0 x.row (label_of G x) l))))
        G.k
        (λ l k.
        rw e
        (ap (cell_start G d)
        (sym
        (numbered.again (outer_member G t x.row (label_of G x) l) (outer_in x.row (label_of G x) l v.row k) refl))))

    diagonal_side :
        diagonal_starts G (get_or (region_starts G d t) x.position 0) (diagonal_of G x) ≡ side_starts G d t (inner_side G x)
    unfolding side_starts inner_side inner_starts
    diagonal_side =
        diagonal_starts_are G d t x.position (diagonal_of G x) v.position
        ∙ same_elements (λ (i : ℕ). cell_start G d (inner_member G t x.position (diagonal_of G x) i))
        (λ (i : ℕ). cell_start G d (cell_numbered G t (number_of G (inner_member G x.tuple.0 x.position (diagonal_of G x) i))))
        G.g
        (λ i h.
        rw e
        (ap (cell_start G d)
        (sym
        (numbered.again (inner_member G t x.position (diagonal_of G x) i)
        (inner_in x.position (diagonal_of G x) i v.position h) refl))))

    -- a unit from one of its sets
    pub cell_side :
        (kind : Kind) (a : List ℕ) →
        cell_bytes G (region_starts G d t) x kind a
        ≡ restored_in a (side_starts G d t (kind_side G x kind)) (kind_side G x kind).own G.u
    unfolding cell_bytes outer_side inner_side
    cell_side Outer a = ap (λ (ps : List ℕ). restored_in a ps x.position G.u) label_side
    cell_side Inner a = ap (λ (ps : List ℕ). restored_in a ps x.row G.u) diagonal_side

  -- an entry is the step that it names
  pub entry_step :
      (e : ℕ) → e < 2 * tuple_cells_of G → (a : List ℕ) →
      entry_bytes G (region_starts G d t) t e a ≡ step_bytes G d t (step_of G t e) a
  unfolding entry_bytes step_bytes step_of cell_numbered
  entry_step e h a =
      cell_side (cell_numbered G t (e / 2)) (numbered.there (e / 2) (omega arith)) refl (kind_in e) a
