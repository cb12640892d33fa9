-- The sources of disk x are pairwise different and on other disks: an outer source lies in another group, an inner one in
-- another column of x's group. Assumes nothing.
use Prim.Native.Nat.{ℕ, ◌/◌, ◌%◌, ◌≤◌, ◌<◌}
use mathlib.Core.Path.{◌≡◌, sym, ap, ap₂, ◌∙◌}
use mathlib.Core.Bool.{true}
use mathlib.Core.Logic.{◌⊎◌, inl, inr}
use mathlib.Core.List.{List}
use native.Mathlib.Omega.{arith}
use lib.Dec.{eqb}
use borrow.Author.Tests.{eqb-true}
use Rattle.counting.proofs.Bools.{and_both}
use Rattle.geometry.specs.declared.Geometry.{Geometry}
use Rattle.geometry.specs.Geometry.{tuples_of, disks_of, units_of}
use Rattle.design.specs.Design.{group_at, Laid}
use Rattle.design.proofs.Rows.{row_once}
use Rattle.region.specs.Columns.{label_column, diagonal_column}
use Rattle.cells.specs.declared.Cell.{Cell}
use Rattle.cells.specs.Cells.{label_of, diagonal_of}
use Rattle.region.proofs.Turns.{diagonal_at_lt, diagonal_once}
use Rattle.cells.proofs.Sets.{diagonal_column_lem}
use Rattle.layout.specs.declared.Place.{Place}
use Rattle.layout.specs.Places.{place, place_of, cell_at}
use Rattle.layout.proofs.Theorems.{cells_are_places}
use Rattle.onedisk.specs.Sources.{on_disk, is_unit}
use Rattle.onedisk.proofs.Counts.{triple_at, total_none, total_low}
use Rattle.onedisk.proofs.Hits.{
  cell_of_disk,
  source_of,
  size_of,
  OuterSource,
  InnerSource,
  unit_cell,
  hit,
  hits,
  unit_in,
  hit_is,
  no_hit,
  source_valid,
  unit_group,
  same_position,
  same_unit,
}

module _ (G : Geometry) (d : List ℕ) (L : Laid G d) (x : ℕ) (hx : x < disks_of G) where
  pub g_pos : 0 < G.g
  g_pos = omega (arith, L.sound.g_low)

  abbrev pub at : ℕ → Cell
  at y = unit_cell G d x y

  abbrev pub source : ℕ → ℕ → Cell
  source y e = source_of G (at y) e

  -- an outer source lies in another group than x's
  pub outer_group :
      (y e : ℕ) → y < units_of G → OuterSource G (at y) e (source y e) →
      group_at G.k d (at y).tuple.0 e ≡ x / G.g → ⊥
  outer_group y e hy o w =
      o.other
      (row_once G.v G.k (tuples_of G) d L.design (at y).tuple.0 (unit_in G d x L hx y hy).tuple e (at y).position
      o.below (unit_in G d x L hx y hy).position (w ∙ sym (unit_group G d x L hx y hy)))

  -- the group and the column of a source's disk
  pub outer_disk :
      (y e z : ℕ) → OuterSource G (at y) e (source y e) → (place_of G d (source y e)).disk.0 ≡ z →
      (group_at G.k d (at y).tuple.0 e ≡ z / G.g)
      × (label_column G.g e (at y).row (label_of G (at y)) ≡ z % G.g)
  outer_disk y e z o w =
      let both = cell_of_disk G d (source y e) o.valid z w in (
        sym (ap (λ (s : Cell). group_at G.k d s.tuple.0 s.position) o.is) ∙ both.0,
        sym (ap (λ (s : Cell). s.column) o.is) ∙ both.1,
      )

  pub inner_disk :
      (y e z : ℕ) → y < units_of G → InnerSource G (at y) e (source y e) → (place_of G d (source y e)).disk.0 ≡ z →
      (x / G.g ≡ z / G.g) × (diagonal_column G.g (diagonal_of G (at y)) e ≡ z % G.g)
  inner_disk y e z hy o w =
      let both = cell_of_disk G d (source y e) o.valid z w in (
        sym (unit_group G d x L hx y hy)
            ∙ sym (ap (λ (s : Cell). group_at G.k d s.tuple.0 s.position) o.is)
            ∙ both.0,
        sym (ap (λ (s : Cell). s.column) o.is) ∙ both.1,
      )

  -- ---- no source twice
  same_source :
      (y e z i : ℕ) → y < units_of G → z < units_of G → source y e ≡ source z i →
      OuterSource G (at y) e (source y e) ⊎ InnerSource G (at y) e (source y e) →
      OuterSource G (at z) i (source z i) ⊎ InnerSource G (at z) i (source z i) → (z ≡ y) × (i ≡ e)
  same_source y e z i hy hz w (inl o) (inl p) =
      let same = sym p.is ∙ sym w ∙ o.is in (
        same_unit G d x L hx z y hz hy (ap (λ (s : Cell). s.tuple.0) same) (ap (λ (s : Cell). s.row) same),
        ap (λ (s : Cell). s.position) same,
      )
  same_source y e z i hy hz w (inr o) (inr p) =
      let same = sym p.is ∙ sym w ∙ o.is in (
        same_unit G d x L hx z y hz hy (ap (λ (s : Cell). s.tuple.0) same) (p.last ∙ sym o.last),
        ap (λ (s : Cell). s.row) same,
      )
  same_source y e z i hy hz w (inl o) (inr p) =
      let same = sym o.is ∙ w ∙ p.is in
      absurd (o.other
      (ap (λ (s : Cell). s.position) same ∙ sym (same_position G d x L hx y z (ap (λ (s : Cell). s.tuple.0) same))))
  same_source y e z i hy hz w (inr o) (inl p) =
      let same = sym p.is ∙ sym w ∙ o.is in
      absurd (p.other
      (ap (λ (s : Cell). s.position) same ∙ sym (same_position G d x L hx z y (ap (λ (s : Cell). s.tuple.0) same))))

  pub once : (z w : ℕ) → hits G d x (is_unit z w) ≤ 1
  once z w =
      total_low (hit G d x (is_unit z w)) (λ (y : ℕ). size_of G (at y)) (units_of G)
      (λ y e y' e' hy he hy' he' p q.
      let a = hit_is G d x L hx (is_unit z w) y e hy he p in
      let b = hit_is G d x L hx (is_unit z w) y' e' hy' he' q in
      same_source y e y' e' hy hy'
      (sym ((cells_are_places G d L).back (source y e) (source_valid G d x L hx y e a.source))
      ∙ ap (λ (p : Place). cell_at G d p.disk.0 p.unit.0) (lies y e a.passes ∙ sym (lies y' e' b.passes))
      ∙ (cells_are_places G d L).back (source y' e') (source_valid G d x L hx y' e' b.source))
      a.source b.source)
    where
      lies : (y e : ℕ) → is_unit z w (triple_at G d y (source y e)) ≡ true → place_of G d (source y e) ≡ place z w
      lies y e h =
          let p : Place = place_of G d (source y e) in
          let both = and_both (eqb p.disk.0 z) (eqb p.unit.0 w) h in
          ap₂ place (eqb-true p.disk.0 z both.0) (eqb-true p.unit.0 w both.1)

  -- ---- disk x itself
  pub itself : hits G d x (on_disk x) ≡ 0
  unfolding cell_at
  itself =
      total_none (hit G d x (on_disk x)) (λ (y : ℕ). size_of G (at y)) (units_of G)
      (λ y e hy he.
      no_hit G d x L hx (on_disk x) y e hy he
      (λ h. go y e hy (eqb-true (place_of G d (source y e)).disk.0 x h.passes) h.source))
    where
      go :
          (y e : ℕ) → y < units_of G → (place_of G d (source y e)).disk.0 ≡ x →
          OuterSource G (at y) e (source y e) ⊎ InnerSource G (at y) e (source y e) → ⊥
      go y e hy w (inl o) = outer_group y e hy o (outer_disk y e x o w).0
      go y e hy w (inr o) =
          let v = unit_in G d x L hx y hy in
          o.other
          (diagonal_once G.g (diagonal_of G (at y)) e (at y).row
          (let low = diagonal_at_lt G.g (at y).row (at y).column g_pos in omega arith) o.below v.row
          ((inner_disk y e x hy o w).1 ∙ sym (diagonal_column_lem G L.sound (at y) v)))
