-- Each other disk of x's group gives one unit per part: a diagonal meets each column once. Assumes nothing.
use Prim.Native.Nat.{ℕ, ◌+◌, ◌-◌, ◌*◌, ◌/◌, ◌%◌, ◌≤◌, ◌<◌}
use mathlib.Core.Path.{◌≡◌, sym, ap, ap₂, ◌∙◌}
use mathlib.Core.Bool.{true}
use mathlib.Core.Logic.{◌⊎◌, inl, inr}
use mathlib.Core.List.{List}
use native.Mathlib.Nat.{mod-lt, div-add-mod'}
use native.Mathlib.Omega.{arith}
use lib.Arith.{digits_lt, digits_div, digits_mod}
use lib.Dec.{eqb}
use borrow.Author.Tests.{eq-eqb, eqb-true}
use Rattle.counting.proofs.Bools.{and_both, both_and}
use Rattle.geometry.specs.declared.Geometry.{Geometry}
use Rattle.geometry.specs.Geometry.{parts_of, disks_of, units_of}
use Rattle.design.specs.Design.{group_at, Laid}
use Rattle.region.specs.Columns.{diagonal_column}
use Rattle.cells.specs.declared.Cell.{Cell}
use Rattle.cells.specs.Cells.{diagonal_of}
use Rattle.cells.specs.Sets.{inner_member}
use Rattle.cells.specs.Ranges.{CellIn}
use Rattle.region.proofs.Turns.{diagonal_column_lt, diagonal_at_lt, diagonal_once}
use Rattle.cells.proofs.Sets.{diagonal_column_lem}
use Rattle.layout.specs.Regions.{part_of}
use Rattle.layout.specs.Places.{place_of, cell_at}
use Rattle.onedisk.specs.Sources.{in_part}
use Rattle.onedisk.proofs.Counts.{triple_at, total_one, each_met}
use Rattle.onedisk.proofs.Distinct.{outer_group, outer_disk, inner_disk}
use Rattle.onedisk.proofs.Hits.{
  source_of,
  size_of,
  OuterSource,
  InnerSource,
  unit_cell,
  hit,
  hits,
  unit_in,
  hit_is,
  inner_hit,
  unit_group,
  unit_part_is,
}

module _ (G : Geometry) (d : List ℕ) (L : Laid G d) (x : ℕ) (hx : x < disks_of G) where
  g_pos : 0 < G.g
  g_pos = omega (arith, L.sound.g_low)

  abbrev at : ℕ → Cell
  at y = unit_cell G d x y

  abbrev source : ℕ → ℕ → Cell
  source y e = source_of G (at y) e

  -- ---- the other disks of x's group: one unit of each part
  module _ (z : ℕ) (same : z / G.g ≡ x / G.g) (ne : z ≡ x → ⊥) (p : ℕ) (hp : p < parts_of G) where
    -- the disk's unit in row g-1 of the part
    abbrev last_unit : ℕ
    last_unit = p * G.g + (G.g - 1)

    top : G.g - 1 < G.g
    top = omega (arith, g_pos)

    last_in : p * G.g + (G.g - 1) < units_of G
    unfolding units_of parts_of
    last_in = digits_lt hp top

    last_row : (at (p * G.g + (G.g - 1))).row ≡ G.g - 1
    unfolding cell_at
    last_row = digits_mod p top

    last_part : (p * G.g + (G.g - 1)) / G.g ≡ p
    last_part = digits_div p top

    v : CellIn G (at (p * G.g + (G.g - 1)))
    v = unit_in G d x L hx last_unit last_in

    abbrev diagonal : ℕ
    diagonal = diagonal_of G (at last_unit)

    low : diagonal_of G (at (p * G.g + (G.g - 1))) ≤ G.g
    low = let l = diagonal_at_lt G.g (at last_unit).row (at last_unit).column g_pos in omega arith

    -- the member of its diagonal that lies in z's column
    meets : (e : ℕ) × (e < G.g) × (diagonal_column G.g (diagonal_of G (at (p * G.g + (G.g - 1)))) e ≡ z % G.g)
    meets =
        each_met (diagonal_column G.g diagonal) G.g (λ i h. diagonal_column_lt G.g diagonal i g_pos)
        (λ i j hi hj. diagonal_once G.g diagonal i j low hi hj) (z % G.g) (mod-lt z g_pos)

    not_own : meets.0 ≡ (at (p * G.g + (G.g - 1))).row → ⊥
    unfolding cell_at
    not_own w =
        let columns : z % G.g ≡ x % G.g =
        sym meets.2 ∙ ap (diagonal_column G.g diagonal) w ∙ diagonal_column_lem G L.sound (at last_unit) v
        in
        ne (sym (div-add-mod' z G.g) ∙ ap₂ (λ (a c : ℕ). a * G.g + c) same columns ∙ div-add-mod' x G.g)

    met : Cell
    met = inner_member G (at last_unit).tuple.0 (at last_unit).position diagonal meets.0

    met_passes : in_part G z p (triple_at G d last_unit met) ≡ true
    unfolding place_of met
    met_passes =
        both_and _ _
        (eq-eqb (group_at G.k d (at last_unit).tuple.0 (at last_unit).position * G.g
        + diagonal_column G.g diagonal meets.0) z
        (ap₂ (λ (a c : ℕ). a * G.g + c) (unit_group G d x L hx last_unit last_in ∙ sym same) meets.2
        ∙ div-add-mod' z G.g))
        (eq-eqb _ p (digits_div _ meets.1 ∙ unit_part_is G d x L hx last_unit last_in ∙ last_part))

    pub group_one : hits G d x (in_part G z p) ≡ 1
    unfolding met place_of cell_at
    group_one =
        let h = inner_hit G d x L hx (in_part G z p) last_unit meets.0 (omega (arith, last_row)) meets.1 not_own met_passes in
        total_one (hit G d x (in_part G z p)) (λ (y : ℕ). size_of G (at y)) (units_of G) last_unit meets.0 last_in h.0 h.1
        (λ y e hy he w. let q = hit_is G d x L hx (in_part G z p) y e hy he w in only y e hy q.passes q.source)
      where
        only :
            (y e : ℕ) → y < units_of G → in_part G z p (triple_at G d y (source y e)) ≡ true →
            OuterSource G (at y) e (source y e) ⊎ InnerSource G (at y) e (source y e) → (y ≡ last_unit) × (e ≡ meets.0)
        only y e hy w (inl o) =
            let both = and_both (eqb (place_of G d (source y e)).disk.0 z) (eqb ((place_of G d (source y e)).unit.0 / G.g) p) w in
            absurd (outer_group G d L x hx y e hy o
            ((outer_disk G d L x hx y e z o (eqb-true (place_of G d (source y e)).disk.0 z both.0)).0 ∙ same))
        only y e hy w (inr o) =
            let both = and_both (eqb (place_of G d (source y e)).disk.0 z) (eqb ((place_of G d (source y e)).unit.0 / G.g) p) w in
            let disk = inner_disk G d L x hx y e z hy o (eqb-true (place_of G d (source y e)).disk.0 z both.0) in
            let part : y / G.g ≡ p =
            sym (unit_part_is G d x L hx y hy)
            ∙ sym (digits_div (part_of G d (group_at G.k d (at y).tuple.0 (at y).position) (at y).tuple.0) o.below)
            ∙ sym (ap (λ (s : Cell). (place_of G d s).unit.0 / G.g) o.is)
            ∙ eqb-true ((place_of G d (source y e)).unit.0 / G.g) p both.1
            in
            let unit : y ≡ last_unit = sym (div-add-mod' y G.g) ∙ ap₂ (λ (a i : ℕ). a * G.g + i) part o.last in (
              unit,
              diagonal_once G.g diagonal e meets.0 low o.below meets.1
                  (ap (λ (u : ℕ). diagonal_column G.g (diagonal_of G (at u)) e) (sym unit) ∙ disk.1 ∙ sym meets.2),
            )
