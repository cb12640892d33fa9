-- The sets of a tuple, as the audit sums them: their units lie in the array, and their numbers are 01's. Assumes nothing.
use Prim.Native.Nat.{ℕ, ◌+◌, ◌-◌, ◌*◌, ◌/◌, ◌%◌, ◌≤◌, ◌<◌}
use mathlib.Core.Path.{◌≡◌, refl, sym, ap, ap₂, subst⁻¹, ◌∙◌}
use mathlib.Core.Bool.{Bool}
use mathlib.Core.List.{List}
use native.Mathlib.Nat.{mod-lt, div-add-mod', div-lt_iff_lt-mul}
use native.Mathlib.Omega.{arith}
use lib.Arith.{digits_div, digits_mod}
use lib.ListN.{get_or}
use Rattle.std.proofs.lemmas.Nat.{row_fits}
use Rattle.geometry.specs.declared.Geometry.{Geometry}
use Rattle.geometry.specs.Geometry.{Sound, tuples_of, tuple_sets_of, sets_of, bytes_of}
use Rattle.geometry.proofs.Laws.{sets_bound}
use Rattle.numbering.specs.Numbering.{outer_number, inner_number}
use Rattle.numbering.specs.Ranges.{OuterIn, InnerIn}
use Rattle.leaves.specs.Bytes.{Inside, zero_sum}
use Rattle.consistent.specs.Consistent.{set_zero}
use Rattle.consistent.proofs.Numbers.{set_starts_outer, set_starts_inner}
use Rattle.sets.specs.Starts.{region_starts, RegionFits, RegionsFit, label_starts, diagonal_starts}
use Rattle.sets.proofs.Starts.{labels_inside, diagonals_inside, label_starts_are, diagonal_starts_are}
use Rattle.finding.specs.declared.Found.{Found}
use Rattle.finding.specs.Bad.{found_below, audit_of}
use Rattle.finding.specs.Steps.{after, found_from}
use Rattle.auditing.specs.Steps.{label_zero, diagonal_zero, outer_zeros, inner_zeros, tuple_found}
use Rattle.finding.proofs.Steps.{from_none, from_bad, from_same, from_add, from_after, found, below_none, below_bad, below_from}

-- ---- the starts of one set, once they are filled in
module _ (G : Geometry) (s : Sound G) (xs : List ℕ) where
  module _ (ps : List ℕ) (i c : ℕ) (e : xs ≡ label_starts G ps i c) where
    pub label_inside : (n : ℕ) → RegionsFit G ps → i < G.g → n ≡ bytes_of G → Inside n xs G.u
    label_inside n f h k = subst⁻¹ (λ (x : List ℕ). Inside n x G.u) e (labels_inside G s ps i c n f h k)

    pub label_zero_lem : (a : List ℕ) (b : Bool) → b ≡ zero_sum a xs G.u → b ≡ label_zero G ps a i c
    label_zero_lem a b h = h ∙ ap (λ (x : List ℕ). zero_sum a x G.u) e

  module _ (p j : ℕ) (e : xs ≡ diagonal_starts G p j) where
    pub diagonal_inside : (n : ℕ) → RegionFits G p → n ≡ bytes_of G → Inside n xs G.u
    diagonal_inside n f k = subst⁻¹ (λ (x : List ℕ). Inside n x G.u) e (diagonals_inside G s p j n f k)

    pub diagonal_zero_lem : (a : List ℕ) (b : Bool) → b ≡ zero_sum a xs G.u → b ≡ diagonal_zero G p a j
    diagonal_zero_lem a b h = h ∙ ap (λ (x : List ℕ). zero_sum a x G.u) e

-- no more are bad than were counted
pub found_bad : (z : ℕ → Bool) (f : Found) (s n : ℕ) (x : Found) → x ≡ found_from z f s n → x.bad ≤ f.bad + n
found_bad z f s n x e = omega (arith, ap (λ (y : Found). y.bad) e, from_bad z f s n)

-- ---- rows of sets: after i rows of g sets each, the next of which has number s + i·g
module _ (z : ℕ → Bool) (f : Found) (s g : ℕ) where
  pub rows_none : f ≡ found_from z f s (0 * g)
  rows_none = let e : 0 * g ≡ 0 = omega arith in sym (ap (found_from z f s) e ∙ from_none z f s)

  pub rows_more :
      (i : ℕ) (x y : Found) (w : ℕ → Bool) → x ≡ found_from z f s (i * g) → ((c : ℕ) → c < g → w c ≡ z (i * g + c))
      → y ≡ found_from w x (s + i * g) g → y ≡ found_from z f s ((i + 1) * g)
  rows_more i x y w h same e =
      let q : i * g + g ≡ (i + 1) * g = omega arith in
      e ∙ from_same w (λ (c : ℕ). z (i * g + c)) x (s + i * g) g same
      ∙ ap (λ (v : Found). found_from (λ (c : ℕ). z (i * g + c)) v (s + i * g) g) h
      ∙ from_add z f s (i * g) g
      ∙ ap (found_from z f s) q

-- the sets of row i, and of region l, by number
module _ (G : Geometry) (ps a : List ℕ) where
  pub row_zeros : (i c : ℕ) → c < G.g → label_zero G ps a i c ≡ outer_zeros G ps a (i * G.g + c)
  row_zeros i c h = sym (ap₂ (label_zero G ps a) (digits_div i h) (digits_mod i h))

  pub region_zeros : (l j : ℕ) → j < G.g → diagonal_zero G (get_or ps l 0) a j ≡ inner_zeros G ps a (l * G.g + j)
  region_zeros l j h = sym (ap₂ (λ (m n : ℕ). diagonal_zero G (get_or ps m 0) a n) (digits_div l h) (digits_mod l h))

-- (g-1)g outer sets and kg inner ones
tuple_whole : (G : Geometry) (t : ℕ) → t * tuple_sets_of G + (G.g - 1) * G.g + G.k * G.g ≡ (t + 1) * tuple_sets_of G
unfolding tuple_sets_of
tuple_whole G t = omega arith

-- ---- the sets of tuple t are those with the numbers from t·((g-1)g + kg) on
module _ (G : Geometry) (d a : List ℕ) (s : Sound G) (t : ℕ) (h : t < tuples_of G) (ps : List ℕ) (e : ps ≡ region_starts G d t) where
  g_pos : 0 < G.g
  g_pos = omega (arith, s.g_low)

  outer_zero : (i c : ℕ) → OuterIn G t i c → label_zero G ps a i c ≡ set_zero G d a (outer_number G t i c)
  unfolding set_zero
  outer_zero i c v =
      ap (λ (x : List ℕ). zero_sum a x G.u)
      (ap (λ (y : List ℕ). label_starts G y i c) e ∙ label_starts_are G d t i c ∙ sym (set_starts_outer G s d t i c v))

  inner_zero : (l j : ℕ) → InnerIn G t l j → diagonal_zero G (get_or ps l 0) a j ≡ set_zero G d a (inner_number G t l j)
  unfolding set_zero
  inner_zero l j v =
      ap (λ (x : List ℕ). zero_sum a x G.u)
      (ap (λ (y : List ℕ). diagonal_starts G (get_or y l 0) j) e
      ∙ diagonal_starts_are G d t l j v.position
      ∙ sym (set_starts_inner G s d t l j v))

  outer_zeros_lem : (x : ℕ) → x < (G.g - 1) * G.g → outer_zeros G ps a x ≡ set_zero G d a (t * tuple_sets_of G + x)
  unfolding outer_number
  outer_zeros_lem x k =
      outer_zero (x / G.g) (x % G.g)
      (record { tuple = h; row = (div-lt_iff_lt-mul g_pos).1 k; column = mod-lt x g_pos })
      ∙ ap (λ (y : ℕ). set_zero G d a (t * tuple_sets_of G + y)) (div-add-mod' x G.g)

  inner_zeros_lem :
      (x : ℕ) → x < G.k * G.g → inner_zeros G ps a x ≡ set_zero G d a (t * tuple_sets_of G + (G.g - 1) * G.g + x)
  unfolding inner_number
  inner_zeros_lem x k =
      let q : x / G.g * G.g + x % G.g ≡ x = div-add-mod' x G.g in
      let n : t * tuple_sets_of G + ((G.g - 1) * G.g + x / G.g * G.g + x % G.g) ≡ t * tuple_sets_of G + (G.g - 1) * G.g + x = omega arith in
      inner_zero (x / G.g) (x % G.g)
      (record { tuple = h; position = (div-lt_iff_lt-mul g_pos).1 k; diagonal = mod-lt x g_pos })
      ∙ ap (set_zero G d a) n

  -- the outer sets, and then the inner ones
  pub tuple_below :
      tuple_found G ps a (found_below G d a (t * tuple_sets_of G)) (t * tuple_sets_of G) ≡ found_below G d a ((t + 1) * tuple_sets_of G)
  unfolding tuple_found
  tuple_below =
      ap (λ (f : Found). found_from (inner_zeros G ps a) f (t * tuple_sets_of G + (G.g - 1) * G.g) (G.k * G.g))
      (below_from G d a (outer_zeros G ps a) (t * tuple_sets_of G) ((G.g - 1) * G.g) outer_zeros_lem)
      ∙ below_from G d a (inner_zeros G ps a) (t * tuple_sets_of G + (G.g - 1) * G.g) (G.k * G.g) inner_zeros_lem
      ∙ ap (found_below G d a) whole
    where
      whole : t * tuple_sets_of G + (G.g - 1) * G.g + G.k * G.g ≡ (t + 1) * tuple_sets_of G
      whole = tuple_whole G t

-- ---- a tuple's outer sets, and its inner ones counted apart
pub tuple_found_lem :
    (G : Geometry) (ps a : List ℕ) (f : Found) (s : ℕ) (y z : Found)
    → y ≡ found_from (outer_zeros G ps a) f s ((G.g - 1) * G.g)
    → z ≡ found_from (inner_zeros G ps a) (found 0 0) (s + (G.g - 1) * G.g) (G.k * G.g)
    → after z y ≡ tuple_found G ps a f s
unfolding tuple_found
tuple_found_lem G ps a f s y z e q =
    ap₂ after q e ∙ from_after (inner_zeros G ps a) (found_from (outer_zeros G ps a) f s ((G.g - 1) * G.g)) _ _

pub tuple_regions :
    (G : Geometry) (ps qs a : List ℕ) (f : Found) (s : ℕ) (y : Found) → y ≡ tuple_found G ps a f s → ps ≡ qs → y ≡ tuple_found G qs a f s
tuple_regions G ps qs a f s y e q = e ∙ ap (λ (x : List ℕ). tuple_found G x a f s) q

-- ---- all tuples of m sets each: before tuple t, whose first set has number t·m
module _ (G : Geometry) (d a : List ℕ) (s : Sound G) (m : ℕ) (e : m ≡ tuple_sets_of G) where
  pub audits_none : found 0 0 ≡ found_below G d a (0 * m)
  audits_none = let z : 0 * m ≡ 0 = omega arith in sym (ap (found_below G d a) z ∙ below_none G d a)

  pub audits_end : (t : ℕ) → t < tuples_of G → t * m + m ≤ 1171170
  unfolding sets_of tuples_of
  audits_end t l = rw e (omega (arith, row_fits t (tuple_sets_of G) (tuples_of G) (tuple_sets_of G) l (omega arith), sets_bound G s))

  -- no more are bad than were counted
  pub audits_bad : (t : ℕ) → t < tuples_of G → (x : Found) → x ≡ found_below G d a (t * m) → (x.bad ≤ t * m) × (t * m + 286 ≤ 1200000)
  audits_bad t l x h =
      (omega (arith, ap (λ (y : Found). y.bad) h, below_bad G d a (t * m)), omega (arith, audits_end t l))

  pub audits_more :
      (t : ℕ) → t < tuples_of G → (x y : Found) → x ≡ found_below G d a (t * m)
      → y ≡ tuple_found G (region_starts G d t) a x (t * m) → y ≡ found_below G d a ((t + 1) * m)
  audits_more t l x y h q =
      q ∙ ap (λ (f : Found). tuple_found G (region_starts G d t) a f (t * m)) h
      ∙ ap (λ (n : ℕ). tuple_found G (region_starts G d t) a (found_below G d a (t * n)) (t * n)) e
      ∙ tuple_below G d a s t l (region_starts G d t) refl
      ∙ sym (ap (λ (n : ℕ). found_below G d a ((t + 1) * n)) e)

  pub audits_all : (t : ℕ) (x : Found) → t ≡ tuples_of G → x ≡ found_below G d a (t * m) → x ≡ audit_of G d a
  unfolding audit_of sets_of tuples_of
  audits_all t x q h = h ∙ ap₂ (λ (i n : ℕ). found_below G d a (i * n)) q e
