-- The triples of a unit, by the members of its set. Assumes nothing.
use Prim.Native.Nat.{ℕ, ◌-◌, ◌≤◌, ◌<◌}
use mathlib.Core.Path.{◌≡◌, refl}
use mathlib.Core.List.{[]}
use borrow.Author.Tests.{eq-eqb, ne_eqb, lt-ltb, le-ltb}
use Rattle.geometry.specs.declared.Geometry.{Geometry}
use Rattle.cells.specs.declared.Cell.{Cell}
use Rattle.cells.specs.Ranges.{CellIn}
use Rattle.cells.specs.Cells.{cell, label_of, diagonal_of}
use Rattle.layout.specs.declared.Place.{Place}
use Rattle.layout.specs.declared.Region.{Region}
use Rattle.sources.specs.Written.{triple_of, member_triples, set_triples, outer_source, inner_source, unit_triples}

module _ (place : ℕ → Place) (q y e : ℕ) where
  -- none for the unit itself, three numbers for another
  pub own_member : e ≡ q → [] ≡ member_triples place q y e
  own_member h = rw (eq-eqb e q h) refl

  pub other_member : (e ≡ q → ⊥) → triple_of y (place e) ≡ member_triples place q y e
  other_member h = rw (ne_eqb e q h) refl

-- "by position of the member (outer) or by row of the member (inner)": where the label's column, or the diagonal, is in hand
module _ (G : Geometry) (ρ : ℕ → Region) (y : ℕ) (x : Cell) (z : ℕ) where
  pub unit_outer :
      z ≡ label_of G x → x.row < G.g - 1 → unit_triples G ρ y x ≡ set_triples (outer_source G ρ x.row z) x.position y G.k
  unfolding unit_triples
  unit_outer is h = rw (lt-ltb x.row (G.g - 1) h, is) refl

  pub unit_inner :
      z ≡ diagonal_of G x → G.g - 1 ≤ x.row
      → unit_triples G ρ y x ≡ set_triples (inner_source G (ρ x.position) z) x.row y G.g
  unfolding unit_triples
  unit_inner is h = rw (le-ltb x.row (G.g - 1) h, is) refl

-- another row of a cell's region and column
pub cell_in_row :
    (G : Geometry) (x : Cell) (i : ℕ) → CellIn G x → i < G.g → CellIn G (cell x.tuple.0 x.position i x.column)
cell_in_row G x i h k = record { tuple = h.tuple; position = h.position; row = k; column = h.column }
