-- Of another group all disks but one give one unit: one tuple names both groups, and two labels meet once. Assumes nothing.
use Prim.Native.Nat.{ℕ, ◌+◌, ◌-◌, ◌*◌, ◌/◌, ◌%◌, ◌<◌}
use mathlib.Core.Path.{◌≡◌, sym, ap, ap₂, subst, subst⁻¹, ◌∙◌}
use mathlib.Core.Bool.{true}
use mathlib.Core.Logic.{◌⊎◌, inl, inr}
use mathlib.Core.List.{List}
use native.Mathlib.Decide.{ℕ_discrete, dec_lt}
use native.Mathlib.Nat.{mod-lt, div-add-mod', div-lt_iff_lt-mul}
use native.Mathlib.Omega.{arith}
use lib.Arith.{digits_div, digits_mod}
use borrow.Author.Tests.{eq-eqb, eqb-true}
use Rattle.geometry.specs.declared.Geometry.{Geometry}
use Rattle.geometry.specs.Geometry.{tuples_of, disks_of, units_of}
use Rattle.design.specs.Design.{group_at, InRow, Laid}
use Rattle.design.proofs.Rows.{row_once}
use Rattle.region.specs.Columns.{label_column, label_at}
use Rattle.cells.specs.declared.Cell.{Cell}
use Rattle.cells.specs.Cells.{cell, label_of}
use Rattle.cells.specs.Sets.{outer_member}
use Rattle.cells.specs.Ranges.{CellIn}
use Rattle.region.proofs.Turns.{label_column_lt, label_at_lt, column_of_label}
use Rattle.region.proofs.Meets.{two_labels_meet_once}
use Rattle.layout.specs.Places.{place_of, cell_at}
use Rattle.layout.proofs.Theorems.{cells_are_places}
use Rattle.sources.specs.Plan.{plan_of}
use Rattle.onedisk.specs.Sources.{triples_in, on_disk, AllButOne}
use Rattle.onedisk.proofs.Counts.{triple_at, total_none, total_one, each_met}
use Rattle.onedisk.proofs.Distinct.{outer_disk, inner_disk}
use Rattle.onedisk.proofs.Hits.{
  source_of,
  size_of,
  OuterSource,
  InnerSource,
  unit_cell,
  hit,
  hits,
  plan_count,
  unit_in,
  hit_is,
  no_hit,
  outer_hit,
  unit_group,
  same_unit,
}

module _ (G : Geometry) (d : List ℕ) (L : Laid G d) (x : ℕ) (hx : x < disks_of G) where
  g_pos : 0 < G.g
  g_pos = omega (arith, L.sound.g_low)

  abbrev at : ℕ → Cell
  at y = unit_cell G d x y

  abbrev source : ℕ → ℕ → Cell
  source y e = source_of G (at y) e

  -- ---- another group: "all disks but one give one unit and that one gives none"
  module _ (a : ℕ) (ha : a < G.v) (ne : a ≡ x / G.g → ⊥) where
    group_low : x / G.g < G.v
    unfolding disks_of
    group_low = (div-lt_iff_lt-mul g_pos).1 hx

    -- the one tuple that names both groups
    record Both : Type 0 where
      tuple : ℕ
      below : tuple < tuples_of G
      there : InRow G.k d a tuple
      here : InRow G.k d (x / G.g) tuple
      only : (s : ℕ) → s < tuples_of G → InRow G.k d a s → InRow G.k d (x / G.g) s → s ≡ tuple

    both : Both
    both = go (dec_lt a (x / G.g))
      where
        go : Dec (a < x / G.g) → Both
        go (yes h) =
            let w = L.design.pairs a (x / G.g) h group_low in
            record { tuple = w.tuple; below = w.below; there = w.left; here = w.right; only = w.only }
        go (no h) =
            let w = L.design.pairs (x / G.g) a (omega arith) ha in
            record {
              tuple = w.tuple;
              below = w.below;
              there = w.right;
              here = w.left;
              only = λ s q p r. w.only s q r p;
            }

    abbrev t : ℕ
    t = both.tuple

    -- the positions of a and of x's group
    abbrev m : ℕ
    m = both.there.0

    abbrev l : ℕ
    l = both.here.0

    apart : both.there.0 ≡ both.here.0 → ⊥
    apart w = ne (sym both.there.2 ∙ ap (group_at G.k d t) w ∙ both.here.2)

    -- the column at position m of the label that stands in row i of x's column at position l
    abbrev column : ℕ → ℕ
    column i = label_column G.g m i (label_at G.g l i (x % G.g))

    column_low : (i : ℕ) → column i < G.g
    column_low i = label_column_lt G.g m i (label_at G.g l i (x % G.g)) g_pos

    column_once : (i j : ℕ) → i < G.g → j < G.g → column i ≡ column j → i ≡ j
    column_once i j hi hj w =
        (two_labels_meet_once G L.sound l m i j (label_at G.g l i (x % G.g)) (label_at G.g l j (x % G.g))
        both.here.1 both.there.1 (λ q. apart (sym q)) hi hj (label_at_lt G.g l i (x % G.g) g_pos)
        (label_at_lt G.g l j (x % G.g) g_pos) (stands i ∙ sym (stands j)) w).0
      where
        stands : (i : ℕ) → label_column G.g l i (label_at G.g l i (x % G.g)) ≡ x % G.g
        stands i = column_of_label G.g l i (x % G.g) (omega (arith, both.here.1, L.sound.k_g)) (mod-lt x g_pos)

    -- a source on disk c of the group is of that tuple, at position m
    record Meets (y e c : ℕ) : Type 0 where
      tuple : (at y).tuple.0 ≡ t
      position : e ≡ m
      low : (at y).row < G.g - 1
      column_is : column (at y).row ≡ c

    disk_parts : (c : ℕ) → c < G.g → ((a * G.g + c) / G.g ≡ a) × ((a * G.g + c) % G.g ≡ c)
    disk_parts c h = (digits_div a h, digits_mod a h)

    met_by :
        (c : ℕ) → c < G.g → (y e : ℕ) → y < units_of G → (place_of G d (source y e)).disk.0 ≡ a * G.g + c →
        OuterSource G (at y) e (source y e) ⊎ InnerSource G (at y) e (source y e) → Meets y e c
    unfolding cell_at
    met_by c hc y e hy w (inr o) =
        absurd (ne (sym (disk_parts c hc).0 ∙ sym (inner_disk G d L x hx y e (a * G.g + c) hy o w).0))
    met_by c hc y e hy w (inl o) =
        let u = unit_in G d x L hx y hy in
        let disk = outer_disk G d L x hx y e (a * G.g + c) o w in
        let there : group_at G.k d (at y).tuple.0 e ≡ a = disk.0 ∙ (disk_parts c hc).0 in
        let here : group_at G.k d (at y).tuple.0 (at y).position ≡ x / G.g = unit_group G d x L hx y hy in
        let tuple : (at y).tuple.0 ≡ t =
        both.only (at y).tuple.0 u.tuple (e, o.below, there) ((at y).position, u.position, here)
        in
        let at-m : e ≡ m =
        row_once G.v G.k (tuples_of G) d L.design t both.below e m o.below both.there.1
        (ap (λ (s : ℕ). group_at G.k d s e) (sym tuple) ∙ there ∙ sym both.there.2)
        in
        let at-l : (at y).position ≡ l =
        row_once G.v G.k (tuples_of G) d L.design t both.below (at y).position l u.position both.here.1
        (ap (λ (s : ℕ). group_at G.k d s (at y).position) (sym tuple) ∙ here ∙ sym both.here.2)
        in
        record {
          tuple = tuple;
          position = at-m;
          low = o.labelled;
          column_is =
              ap₂ (λ (p q : ℕ). label_column G.g p (at y).row (label_at G.g q (at y).row (x % G.g))) (sym at-m) (sym at-l)
              ∙ disk.1
              ∙ (disk_parts c hc).1;
        }

    -- the disk in the column of row g-1's label gives none
    none_column : hits G d x (on_disk (a * G.g + column (G.g - 1))) ≡ 0
    none_column =
        total_none (hit G d x (on_disk (a * G.g + column (G.g - 1)))) (λ (y : ℕ). size_of G (at y)) (units_of G)
        (λ y e hy he.
        no_hit G d x L hx (on_disk (a * G.g + column (G.g - 1))) y e hy he
        (λ h.
        let w =
        met_by (column (G.g - 1)) (column_low (G.g - 1)) y e hy
        (eqb-true (place_of G d (source y e)).disk.0 (a * G.g + column (G.g - 1)) h.passes) h.source
        in
        let same : (at y).row ≡ G.g - 1 =
        column_once (at y).row (G.g - 1) (unit_in G d x L hx y hy).row (omega (arith, g_pos)) w.column_is
        in
        omega (arith, w.low)))

    -- the unit of disk x in row i of that tuple
    module _ (i : ℕ) (hi : i < G.g - 1) where
      abbrev own : Cell
      own = cell t l i (x % G.g)

      own_in : CellIn G (cell t l i (x % G.g))
      own_in = record { tuple = both.below; position = both.here.1; row = omega arith; column = mod-lt x g_pos }

      abbrev own_unit : ℕ
      own_unit = (place_of G d own).unit.0

      own_unit_in : (place_of G d (cell t l i (x % G.g))).unit.0 < units_of G
      own_unit_in = ((cells_are_places G d L).there own own_in).unit

      own_disk : (place_of G d (cell t l i (x % G.g))).disk.0 ≡ x
      unfolding place_of
      own_disk = ap (λ (n : ℕ). n * G.g + x % G.g) both.here.2 ∙ div-add-mod' x G.g

      own_at : cell_at G d x (place_of G d (cell t l i (x % G.g))).unit.0 ≡ cell t l i (x % G.g)
      own_at = ap (λ (n : ℕ). cell_at G d n own_unit) (sym own_disk) ∙ (cells_are_places G d L).back own own_in

      own_passes :
          on_disk (a * G.g + column i) (triple_at G d own_unit (outer_member G t i (label_of G (cell t l i (x % G.g))) m)) ≡ true
      unfolding place_of
      own_passes =
          eq-eqb (group_at G.k d t m * G.g + column i) (a * G.g + column i)
          (ap (λ (n : ℕ). n * G.g + column i) both.there.2)

      one_row : hits G d x (on_disk (a * G.g + column i)) ≡ 1
      one_row =
          total_one (hit G d x (on_disk (a * G.g + column i))) (λ (y : ℕ). size_of G (at y)) (units_of G) own_unit m own_unit_in
          h.0 h.1
          (λ y e hy he w.
          let q = hit_is G d x L hx (on_disk (a * G.g + column i)) y e hy he w in
          let r =
          met_by (column i) (column_low i) y e hy
          (eqb-true (place_of G d (source y e)).disk.0 (a * G.g + column i) q.passes) q.source
          in
          let row : (at y).row ≡ i =
          column_once (at y).row i (unit_in G d x L hx y hy).row (omega arith) r.column_is
          in (
            same_unit G d x L hx y own_unit hy own_unit_in (r.tuple ∙ sym (ap (λ (c : Cell). c.tuple.0) own_at))
                (row ∙ sym (ap (λ (c : Cell). c.row) own_at)),
            r.position,
          ))
        where
          Passes : Cell → Type 0
          Passes c =
              on_disk (a * G.g + column i) (triple_at G d own_unit (outer_member G c.tuple.0 c.row (label_of G c) m)) ≡ true

          h : (m < size_of G (at own_unit)) × (hit G d x (on_disk (a * G.g + column i)) own_unit m ≡ true)
          h =
              outer_hit G d x L hx (on_disk (a * G.g + column i)) own_unit m
              (subst⁻¹ (λ (c : Cell). c.row < G.g - 1) own_at hi) both.there.1
              (λ w. apart (w ∙ ap (λ (c : Cell). c.position) own_at)) (subst⁻¹ Passes own_at own_passes)

    -- each other is met by one row
    one_column : (c : ℕ) → c < G.g → (c ≡ column (G.g - 1) → ⊥) → hits G d x (on_disk (a * G.g + c)) ≡ 1
    one_column c hc other = from (each_met column G.g (λ i h. column_low i) column_once c hc)
      where
        from : (i : ℕ) × (i < G.g) × (column i ≡ c) → hits G d x (on_disk (a * G.g + c)) ≡ 1
        from (i, hi, w) =
            subst (λ (c : ℕ). hits G d x (on_disk (a * G.g + c)) ≡ 1) w (one_row i (cases (ℕ_discrete i (G.g - 1))))
          where
            cases : Dec (i ≡ G.g - 1) → i < G.g - 1
            cases (yes q) = absurd (other (sym w ∙ ap column q))
            cases (no q) = omega arith

    pub all_but_one : AllButOne G a (triples_in (plan_of G d x))
    all_but_one =
        record {
          column = column (G.g - 1);
          low = column_low (G.g - 1);
          none = plan_count G d x (on_disk (a * G.g + column (G.g - 1))) ∙ none_column;
          one = λ c h ne. plan_count G d x (on_disk (a * G.g + c)) ∙ one_column c h ne;
        }
