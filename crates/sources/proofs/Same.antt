-- What is written part by part, with a tuple's regions in hand, is the plan. Assumes nothing.
use Prim.Native.Nat.{ℕ, ◌+◌, ◌-◌, ◌*◌, ◌/◌, ◌<◌}
use mathlib.Core.Path.{◌≡◌, refl, sym, ap, ap₂, subst, ◌∙◌}
use mathlib.Core.Bool.{cond}
use mathlib.Core.List.{List, []}
use native.Mathlib.Nat.{add-zero}
use native.Mathlib.Omega.{arith}
use lib.Arith.{digits_lt, digits_div, digits_mod}
use lib.Dec.{ltb, eqb}
use Rattle.geometry.specs.declared.Geometry.{Geometry}
use Rattle.geometry.specs.Geometry.{parts_of, disks_of, units_of}
use Rattle.design.specs.Design.{Laid}
use Rattle.region.specs.Columns.{label_column, diagonal_column}
use Rattle.cells.specs.declared.Cell.{Cell}
use Rattle.cells.specs.Cells.{cell, label_of, diagonal_of}
use Rattle.cells.specs.Ranges.{CellIn}
use Rattle.layout.specs.declared.Place.{Place}
use Rattle.layout.specs.declared.Region.{Region}
use Rattle.layout.specs.Regions.{region_of}
use Rattle.layout.specs.Places.{in_region, place_of, cell_at}
use Rattle.layout.proofs.Places.{cell_at_in}
use Rattle.sources.specs.Plan.{lists_of, unit_plan, plan_below, plan_of}
use Rattle.sources.specs.Written.{in_hand, RegionsOf, triple_of, set_triples, unit_triples, row_triples, part_plan}
use Rattle.sources.proofs.Lists.{lists_same, lists_times}
use Rattle.sources.proofs.Sources.{cell_in_row}

-- the triples of a set, where its members' places are the same
set_same :
    (f h : ℕ → Place) (q y n : ℕ) → ((e : ℕ) → e < n → f e ≡ h e) → set_triples f q y n ≡ set_triples h q y n
set_same f h q y n same = lists_same _ _ n (λ e k. ap (λ (p : Place). cond (eqb e q) [] (triple_of y p)) (same e k))

-- of one unit
module _ (G : Geometry) (d : List ℕ) (ρ : ℕ → Region) (x : Cell) (h : CellIn G x)
    (same : (e : ℕ) → e < G.k → ρ e ≡ region_of G d x.tuple.0 e) where
  pub unit_same : (y : ℕ) → unit_triples G ρ y x ≡ unit_plan G d y x
  unfolding unit_triples unit_plan place_of
  unit_same y =
      ap₂ (cond (ltb x.row (G.g - 1)))
      (set_same _ _ x.position y G.k
      (λ e k. ap (λ (a : Region). in_region G a x.row (label_column G.g e x.row (label_of G x))) (same e k)))
      (set_same _ _ x.row y G.g
      (λ e k. ap (λ (a : Region). in_region G a e (diagonal_column G.g (diagonal_of G x) e)) (same x.position h.position)))

-- of one part: its units' cells differ in their rows alone
module _ (G : Geometry) (d : List ℕ) (L : Laid G d) (disk p : ℕ) (hd : disk < disks_of G) (hp : p < parts_of G) where
  pub row_unit : (i : ℕ) → i < G.g → p * G.g + i < units_of G
  unfolding units_of parts_of
  row_unit i k = digits_lt hp k

  abbrev first : Cell
  first = cell_at G d disk (p * G.g)

  g_pos : 0 < G.g
  g_pos = omega arith

  pub cell_of_row : (i : ℕ) → i < G.g → cell_at G d disk (p * G.g + i) ≡ cell first.tuple.0 first.position i first.column
  unfolding cell_at
  cell_of_row i k =
      let whole : p * G.g / G.g ≡ p = ap (λ (n : ℕ). n / G.g) (sym (add-zero (p * G.g))) ∙ digits_div p g_pos in
      rw (digits_div p k, digits_mod p k, whole) refl

  pub first_unit : p * G.g < units_of G
  first_unit = omega (arith, row_unit 0 g_pos)

  pub first_in : CellIn G first
  first_in = cell_at_in G d L disk (p * G.g) hd first_unit

  module _ (ρ : ℕ → Region) (same : (e : ℕ) → e < G.k → ρ e ≡ region_of G d first.tuple.0 e) where
    pub part_same : lists_of (row_triples G ρ (p * G.g) first) G.g ≡ part_plan G d disk p
    unfolding part_plan
    part_same =
        lists_same _ _ G.g
        (λ i k.
        unit_same G d ρ (cell first.tuple.0 first.position i first.column) (cell_in_row G first i first_in k) same (p * G.g + i)
        ∙ ap (unit_plan G d (p * G.g + i)) (sym (cell_of_row i k)))

  -- the same from a cell and its tuple's regions in hand
  pub part_found :
      (x : Cell) → x ≡ first → (regions : List Region) → RegionsOf G d x.tuple.0 regions
      → lists_of (row_triples G (in_hand regions) (p * G.g) x) G.g ≡ part_plan G d disk p
  part_found x is regions h =
      let same = subst (λ (z : Cell). RegionsOf G d z.tuple.0 regions) is h in
      ap (λ (z : Cell). lists_of (row_triples G (in_hand regions) (p * G.g) z) G.g) is ∙ part_same (in_hand regions) same

-- of the disk
pub parts_are_the_plan : (G : Geometry) (d : List ℕ) (disk : ℕ) → lists_of (part_plan G d disk) (parts_of G) ≡ plan_of G d disk
unfolding part_plan plan_of plan_below units_of parts_of
parts_are_the_plan G d disk = sym (lists_times (λ (y : ℕ). unit_plan G d y (cell_at G d disk y)) G.g _)
