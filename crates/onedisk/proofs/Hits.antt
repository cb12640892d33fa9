-- The sources that the plan gives for disk x, by the disk's unit and the member of its set. Assumes nothing.
use Prim.Native.Nat.{ℕ, ◌-◌, ◌/◌, ◌%◌, ◌≤◌, ◌<◌}
use mathlib.Core.Path.{◌≡◌, refl, sym, ap, ap₂, subst⁻¹, ◌∙◌}
use mathlib.Core.Bool.{Bool, true, false, not, ◌&&◌, cond}
use mathlib.Core.Logic.{◌⊎◌, inl, inr, ⊎_elim}
use mathlib.Core.List.{List}
use native.Mathlib.Omega.{arith}
use lib.Arith.{digits_div, digits_mod}
use lib.Dec.{ltb, eqb}
use borrow.Author.Tests.{ne_eqb, eqb-false, ltb-true, ltb-false, lt-ltb, le-ltb, not-true}
use Rattle.counting.proofs.Bools.{bool_either, and_both, both_and, not_is_true}
use Rattle.counting.proofs.Sums.{sum_same}
use Rattle.geometry.specs.declared.Geometry.{Geometry}
use Rattle.geometry.specs.Geometry.{disks_of, units_of}
use Rattle.design.specs.Design.{group_at, Laid}
use Rattle.cells.specs.declared.Cell.{Cell}
use Rattle.cells.specs.Cells.{cell, label_of, diagonal_of}
use Rattle.cells.specs.Sets.{outer_member, inner_member}
use Rattle.cells.specs.Ranges.{CellIn}
use Rattle.cells.proofs.Sets.{outer_member_in, inner_member_in, label_in, diagonal_in}
use Rattle.layout.specs.declared.Place.{Place}
use Rattle.layout.specs.declared.Region.{Region}
use Rattle.layout.specs.Regions.{part_of, position_of}
use Rattle.layout.specs.Places.{place_of, cell_at}
use Rattle.layout.proofs.Regions.{region_back}
use Rattle.layout.proofs.Places.{disk_group, unit_part, cell_at_in, place_of_cell}
use Rattle.sources.specs.Plan.{others, unit_plan, plan_below, plan_of}
use Rattle.onedisk.specs.Sources.{Triple, triples_in, count_in}
use Rattle.onedisk.proofs.Triples.{threes_unit}
use Rattle.onedisk.proofs.Counts.{total, counted_lists, counted_others, triple_at}

-- group and column of the disk on which a cell lies
pub cell_of_disk :
    (G : Geometry) (d : List ℕ) (s : Cell) → CellIn G s → (x : ℕ) → (place_of G d s).disk.0 ≡ x →
    (group_at G.k d s.tuple.0 s.position ≡ x / G.g) × (s.column ≡ x % G.g)
unfolding place_of
cell_of_disk G d s v x e = (
  sym (digits_div (group_at G.k d s.tuple.0 s.position) v.column) ∙ ap (λ (n : ℕ). n / G.g) e,
  sym (digits_mod (group_at G.k d s.tuple.0 s.position) v.column) ∙ ap (λ (n : ℕ). n % G.g) e,
)

-- ---- the outer set of a cell, or its inner one: the members, which of them the cell is, and how many they are
abbrev pub members_by : Geometry → Cell → (outer : Bool) → ℕ → Cell
members_by G c outer =
    cond outer (outer_member G c.tuple.0 c.row (label_of G c)) (inner_member G c.tuple.0 c.position (diagonal_of G c))

abbrev pub own_by : Cell → (outer : Bool) → ℕ
own_by c outer = cond outer c.position c.row

abbrev pub size_by : Geometry → (outer : Bool) → ℕ
size_by G outer = cond outer G.k G.g

-- the same of the set that the plan reads: below row g-1 the outer one
abbrev pub source_of : Geometry → Cell → ℕ → Cell
source_of G c = members_by G c (ltb c.row (G.g - 1))

abbrev pub own_of : Geometry → Cell → ℕ
own_of G c = own_by c (ltb c.row (G.g - 1))

abbrev pub size_of : Geometry → Cell → ℕ
size_of G c = size_by G (ltb c.row (G.g - 1))

unit_plan_is :
    (G : Geometry) (d : List ℕ) (y : ℕ) (c : Cell) → unit_plan G d y c ≡ others G d y (source_of G c) (own_of G c) (size_of G c)
unfolding unit_plan
unit_plan_is G d y c = go (ltb c.row (G.g - 1))
  where
    go :
        (b : Bool) →
        cond b (others G d y (members_by G c true) c.position G.k) (others G d y (members_by G c false) c.row G.g)
        ≡ others G d y (members_by G c b) (own_by c b) (size_by G b)
    go true = refl
    go false = refl

-- s is the e-th member, but not the cell itself, of the outer or of the inner set of cell c
pub record OuterSource (G : Geometry) (c : Cell) (e : ℕ) (s : Cell) : Type 0 where
  pub labelled : c.row < G.g - 1
  pub below : e < G.k
  pub other : e ≡ c.position → ⊥
  pub is : s ≡ outer_member G c.tuple.0 c.row (label_of G c) e
  pub valid : CellIn G s

pub record InnerSource (G : Geometry) (c : Cell) (e : ℕ) (s : Cell) : Type 0 where
  pub last : c.row ≡ G.g - 1
  pub below : e < G.g
  pub other : e ≡ c.row → ⊥
  pub is : s ≡ inner_member G c.tuple.0 c.position (diagonal_of G c) e
  pub valid : CellIn G s

module _ (G : Geometry) (d : List ℕ) (L : Laid G d) (c : Cell) (v : CellIn G c) where
  source_cases :
      (e : ℕ) → e < size_of G c → (e ≡ own_of G c → ⊥) →
      OuterSource G c e (source_of G c e) ⊎ InnerSource G c e (source_of G c e)
  source_cases e = go (ltb c.row (G.g - 1)) refl
    where
      go :
          (b : Bool) → ltb c.row (G.g - 1) ≡ b → e < size_by G b → (e ≡ own_by c b → ⊥) →
          OuterSource G c e (members_by G c b e) ⊎ InnerSource G c e (members_by G c b e)
      go true q l ne =
          let low : c.row < G.g - 1 = ltb-true c.row (G.g - 1) q in
          inl
          (record {
            labelled = low;
            below = l;
            other = ne;
            is = refl;
            valid = outer_member_in G L.sound c.tuple.0 c.row (label_of G c) e (label_in G L.sound c v low) l;
          })
      go false q l ne =
          inr
          (record {
            last = omega (arith, ltb-false c.row (G.g - 1) q, v.row);
            below = l;
            other = ne;
            is = refl;
            valid =
                inner_member_in G L.sound c.tuple.0 c.position (diagonal_of G c) e (diagonal_in G L.sound c v) l;
          })

-- ---- the sources of disk x
module _ (G : Geometry) (d : List ℕ) (x : ℕ) where
  abbrev pub unit_cell : ℕ → Cell
  unit_cell y = cell_at G d x y

  -- the e-th member of unit y's set is a source that passes the test
  abbrev pub hit : (Triple → Bool) → ℕ → ℕ → Bool
  hit f y e =
      not (eqb e (own_of G (unit_cell y))) && f (triple_at G d y (source_of G (unit_cell y) e))

  abbrev pub hits : (Triple → Bool) → ℕ
  hits f = total (hit f) (λ (y : ℕ). size_of G (unit_cell y)) (units_of G)

  pub plan_count : (f : Triple → Bool) → count_in f (triples_in (plan_of G d x)) ≡ hits f
  unfolding plan_of plan_below
  plan_count f =
      counted_lists f (λ (y : ℕ). unit_plan G d y (unit_cell y)) (units_of G) (λ y. threes_unit G d y (unit_cell y))
      ∙ sum_same _ _ (units_of G)
      (λ y h.
      ap (λ (xs : List ℕ). count_in f (triples_in xs)) (unit_plan_is G d y (unit_cell y))
      ∙ counted_others f G d y (source_of G (unit_cell y)) (own_of G (unit_cell y)) (size_of G (unit_cell y)))

  module _ (L : Laid G d) (hx : x < disks_of G) where
    pub record Hit (f : Triple → Bool) (y e : ℕ) : Type 0 where
      pub source :
          OuterSource G (unit_cell y) e (source_of G (unit_cell y) e) ⊎ InnerSource G (unit_cell y) e (source_of G (unit_cell y) e)
      pub passes : f (triple_at G d y (source_of G (unit_cell y) e)) ≡ true

    pub unit_in : (y : ℕ) → y < units_of G → CellIn G (unit_cell y)
    unit_in y hy = cell_at_in G d L x y hx hy

    pub hit_is : (f : Triple → Bool) (y e : ℕ) → y < units_of G → e < size_of G (unit_cell y) → hit f y e ≡ true → Hit f y e
    hit_is f y e hy l h =
        let both = and_both (not (eqb e (own_of G (unit_cell y)))) (f (triple_at G d y (source_of G (unit_cell y) e))) h in
        record {
          source =
              source_cases G d L (unit_cell y) (unit_in y hy) e l
              (eqb-false e (own_of G (unit_cell y)) (not-true _ both.0));
          passes = both.1;
        }

    -- and a member of the set that is not the unit itself is one
    set_hit :
        (f : Triple → Bool) (y e : ℕ) (b : Bool) → ltb (unit_cell y).row (G.g - 1) ≡ b →
        e < size_by G b → (e ≡ own_by (unit_cell y) b → ⊥) →
        f (triple_at G d y (members_by G (unit_cell y) b e)) ≡ true → (e < size_of G (unit_cell y)) × (hit f y e ≡ true)
    set_hit f y e b q l ne p =
        let c : Cell = unit_cell y in
        subst⁻¹
        (λ (b : Bool).
        (e < size_by G b) × ((not (eqb e (own_by c b)) && f (triple_at G d y (members_by G c b e))) ≡ true)) q
        (l, both_and _ _ (not_is_true _ (ne_eqb e (own_by c b) ne)) p)

    pub outer_hit :
        (f : Triple → Bool) (y e : ℕ) → (unit_cell y).row < G.g - 1 → e < G.k → (e ≡ (unit_cell y).position → ⊥) →
        f (triple_at G d y (members_by G (unit_cell y) true e)) ≡ true → (e < size_of G (unit_cell y)) × (hit f y e ≡ true)
    outer_hit f y e low = set_hit f y e true (lt-ltb (unit_cell y).row (G.g - 1) low)

    pub inner_hit :
        (f : Triple → Bool) (y e : ℕ) → G.g - 1 ≤ (unit_cell y).row → e < G.g → (e ≡ (unit_cell y).row → ⊥) →
        f (triple_at G d y (members_by G (unit_cell y) false e)) ≡ true → (e < size_of G (unit_cell y)) × (hit f y e ≡ true)
    inner_hit f y e high = set_hit f y e false (le-ltb (unit_cell y).row (G.g - 1) high)

    -- ---- the units of disk x
    pub unit_group : (y : ℕ) → y < units_of G → group_at G.k d (unit_cell y).tuple.0 (unit_cell y).position ≡ x / G.g
    unfolding cell_at
    unit_group y hy =
        ap (λ (r : Region). r.group.0)
        (region_back G d L (x / G.g) (y / G.g) (disk_group G d L x y hx hy) (unit_part G d L x y hx hy))

    pub unit_part_is :
        (y : ℕ) → y < units_of G →
        part_of G d (group_at G.k d (unit_cell y).tuple.0 (unit_cell y).position) (unit_cell y).tuple.0 ≡ y / G.g
    unfolding cell_at
    unit_part_is y hy =
        ap (λ (r : Region). r.part.0)
        (region_back G d L (x / G.g) (y / G.g) (disk_group G d L x y hx hy) (unit_part G d L x y hx hy))

    -- of one tuple they stand at one position
    pub same_position : (y z : ℕ) → (unit_cell y).tuple.0 ≡ (unit_cell z).tuple.0 → (unit_cell y).position ≡ (unit_cell z).position
    unfolding cell_at
    same_position y z e = ap (position_of G d (x / G.g)) e

    -- and in each row there is one
    pub same_unit :
        (y z : ℕ) → y < units_of G → z < units_of G → (unit_cell y).tuple.0 ≡ (unit_cell z).tuple.0 →
        (unit_cell y).row ≡ (unit_cell z).row → y ≡ z
    unfolding cell_at
    same_unit y z hy hz e r =
        let same : cell_at G d x y ≡ cell_at G d x z =
        ap₂ (λ (t i : ℕ). cell t (position_of G d (x / G.g) t) i (x % G.g)) e r
        in
        ap (λ (p : Place). p.unit.0)
        (sym (place_of_cell G d L x y hx hy) ∙ ap (place_of G d) same ∙ place_of_cell G d L x z hx hz)

    -- a test fails where a hit is absurd
    pub no_hit : (f : Triple → Bool) (y e : ℕ) → y < units_of G → e < size_of G (unit_cell y) → (Hit f y e → ⊥) → hit f y e ≡ false
    no_hit f y e hy he none =
        ⊎_elim (λ (w : hit f y e ≡ true). absurd (none (hit_is f y e hy he w)))
        (λ (w : hit f y e ≡ false). w) (bool_either (hit f y e))

    -- a source is a cell
    pub source_valid :
        (y e : ℕ) →
        OuterSource G (unit_cell y) e (source_of G (unit_cell y) e) ⊎ InnerSource G (unit_cell y) e (source_of G (unit_cell y) e) →
        CellIn G (source_of G (unit_cell y) e)
    source_valid y e (inl o) = o.valid
    source_valid y e (inr o) = o.valid
