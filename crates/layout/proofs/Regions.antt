-- The tuples' regions are the parts of the groups: 01, "A group's part p belongs to the p-th row of the design, from 0, that
-- names it". Assumes nothing.
use Prim.Native.Nat.{ℕ, ◌<◌}
use mathlib.Core.Path.{◌≡◌, ◌∙◌, ap, refl, sym}
use mathlib.Core.Bool.{true}
use mathlib.Core.List.{List}
use Rattle.counting.specs.Counting.{count_below}
use Rattle.counting.proofs.Laws.{count_lt, nth_count, nth_lt, nth_holds, count_nth}
use Rattle.geometry.specs.declared.Geometry.{Geometry}
use Rattle.geometry.specs.Geometry.{parts_of, tuples_of}
use Rattle.design.specs.Design.{group_at, names, Laid}
use Rattle.design.proofs.Rows.{in_names, position_lt, position_holds, position_is, each_group_in_r_rows}
use Rattle.layout.specs.declared.Region.{Region}
use Rattle.layout.specs.Regions.{region, part_of, tuple_of, position_of, region_of}
use Rattle.layout.specs.Ranges.{RegionIn}
use Rattle.layout.specs.Theorems.{OneRegion}

-- the tuple and the position of a group's part
abbrev pub tuple_of_region : Geometry → List ℕ → Region → ℕ
tuple_of_region G d x = tuple_of G d x.group.0 x.part.0

abbrev pub position_of_region : Geometry → List ℕ → Region → ℕ
position_of_region G d x = position_of G d x.group.0 (tuple_of_region G d x)

module _ (G : Geometry) (d : List ℕ) (L : Laid G d) where
  -- "Each disk has r parts": each group stands in r rows
  in_r_rows : (a : ℕ) → a < G.v → count_below (names G.k d a) (tuples_of G) ≡ parts_of G
  unfolding parts_of
  in_r_rows a h =
      each_group_in_r_rows G.v G.k (tuples_of G) d L.sound.limits.k_low L.design a h

  -- from position l of tuple t
  module _ (t l : ℕ) (h : RegionIn G t l) where
    pub group_lt : group_at G.k d t l < G.v
    group_lt = L.design.groups t l h.tuple h.position

    named : names G.k d (group_at G.k d t l) t ≡ true
    named = in_names G.k d (group_at G.k d t l) t (l, h.position, refl)

    pub part_lt : part_of G d (group_at G.k d t l) t < parts_of G
    unfolding part_of
    part_lt =
        rw (in_r_rows (group_at G.k d t l) group_lt) at
        (count_lt (names G.k d (group_at G.k d t l)) t (tuples_of G) h.tuple named)

    pub tuple_back : tuple_of_region G d (region_of G d t l) ≡ t
    unfolding tuple_of part_of
    tuple_back = nth_count (names G.k d (group_at G.k d t l)) (tuples_of G) t h.tuple named

    pub position_back : position_of_region G d (region_of G d t l) ≡ l
    unfolding position_of
    position_back =
        rw tuple_back
        (position_is G.v G.k (tuples_of G) d L.design t h.tuple l (group_at G.k d t l) h.position refl)

  -- from part p of group a
  module _ (a p : ℕ) (ha : a < G.v) (hp : p < parts_of G) where
    pub part_in_rows : p < count_below (names G.k d a) (tuples_of G)
    part_in_rows = rw (in_r_rows a ha) hp

    row_names : names G.k d a (tuple_of G d a p) ≡ true
    unfolding tuple_of
    row_names = nth_holds (names G.k d a) (tuples_of G) p part_in_rows

    pub region_in : RegionIn G (tuple_of G d a p) (position_of G d a (tuple_of G d a p))
    unfolding tuple_of position_of
    region_in =
        record {
          tuple = nth_lt (names G.k d a) (tuples_of G) p part_in_rows;
          position = position_lt G.k d a (tuple_of G d a p) row_names;
        }

    group_back : group_at G.k d (tuple_of G d a p) (position_of G d a (tuple_of G d a p)) ≡ a
    unfolding position_of
    group_back = position_holds G.k d a (tuple_of G d a p) row_names

    part_back : part_of G d a (tuple_of G d a p) ≡ p
    unfolding tuple_of part_of
    part_back = count_nth (names G.k d a) (tuples_of G) p part_in_rows

    pub region_back : region_of G d (tuple_of G d a p) (position_of G d a (tuple_of G d a p)) ≡ region a p
    region_back = rw (group_back, part_back)

    pub one_region : OneRegion G d a p
    one_region =
        record {
          tuple = tuple_of G d a p;
          position = position_of G d a (tuple_of G d a p);
          valid = region_in;
          here = region_back;
          only = λ t l h e. (
            sym (tuple_back t l h) ∙ ap (tuple_of_region G d) e,
            sym (position_back t l h) ∙ ap (position_of_region G d) e,
          );
        }
