-- The triples of a list one by one: a test and its count; and those of the plan are of units that there are. Assumes nothing.
use Prim.Native.Nat.{ℕ, suc, ◌≤◌, ◌<◌}
use mathlib.Core.Path.{◌≡◌, sym, ap, ◌∙◌}
use mathlib.Core.Bool.{Bool, true, false, not, ◌&&◌}
use mathlib.Core.Logic.{◌⊎◌, inl, inr, ⊎_elim}
use mathlib.Core.List.{List, [], ◌∷◌}
use native.Mathlib.Omega.{arith}
use lib.Dec.{ltb}
use borrow.Author.Tests.{lt-ltb, ltb-true, not-true, not-false}
use Rattle.counting.specs.Counting.{one_more_if}
use Rattle.counting.proofs.Bools.{bool_either, bool_not_both, and_both, both_and}
use Rattle.geometry.specs.declared.Geometry.{Geometry}
use Rattle.geometry.specs.Geometry.{disks_of, units_of}
use Rattle.design.specs.Design.{Laid}
use Rattle.cells.specs.declared.Cell.{Cell}
use Rattle.layout.specs.Places.{place_of}
use Rattle.layout.proofs.Theorems.{cells_are_places}
use Rattle.sources.specs.Plan.{plan_of}
use Rattle.onedisk.specs.Sources.{Triple, triples_in, IsTriple, count_in}
use Rattle.onedisk.proofs.Counts.{triple_at, total_none}
use Rattle.onedisk.proofs.Hits.{source_of, size_of, unit_cell, hit, plan_count, Hit, no_hit, source_valid}

-- the triple is in the list
abbrev pub Among : Triple → List Triple → Type 0
Among s [] = ⊥
Among s (t ∷ ts) = (t ≡ s) ⊎ Among s ts

pub triple_among : (y z w : ℕ) (ts : List Triple) → IsTriple y z w ts → Among (record { restores = y; disk = z; unit = w }) ts
triple_among y z w [] m = elim m [ ]
triple_among y z w (t ∷ ts) (inl e) = inl e
triple_among y z w (t ∷ ts) (inr m) = inr (triple_among y z w ts m)

pub among_triple : (s : Triple) (ts : List Triple) → Among s ts → IsTriple s.restores s.disk s.unit ts
among_triple s [] m = elim m [ ]
among_triple s (t ∷ ts) (inl e) = inl e
among_triple s (t ∷ ts) (inr m) = inr (among_triple s ts m)

-- ---- a test and its count
module _ (f : Triple → Bool) where
  one_more : (b : Bool) (n : ℕ) → n ≤ one_more_if b n
  one_more true n = omega arith
  one_more false n = omega arith

  counted_in : (s : Triple) (ts : List Triple) → Among s ts → f s ≡ true → 1 ≤ count_in f ts
  unfolding count_in
  counted_in s [] m h = elim m [ ]
  counted_in s (t ∷ ts) (inl e) h = let p : f t ≡ true = ap f e ∙ h in rw p (omega arith)
  counted_in s (t ∷ ts) (inr m) h = omega (arith, counted_in s ts m h, one_more (f t) (count_in f ts))

  pub none_counted : (s : Triple) (ts : List Triple) → Among s ts → count_in f ts ≡ 0 → f s ≡ false
  none_counted s ts m e =
      ⊎_elim (λ (h : f s ≡ true). absurd (let p = counted_in s ts m h in omega (arith, e, p))) (λ (h : f s ≡ false). h)
      (bool_either (f s))

  -- where the first passes and the count is at most one, no other passes
  pub first_only : (s : Triple) (ts : List Triple) → count_in f (s ∷ ts) ≤ 1 → f s ≡ true → count_in f ts ≡ 0
  unfolding count_in
  first_only s ts l h = let p : suc (count_in f ts) ≤ 1 = rw h at l in omega arith

  pub rest_low : (s : Triple) (ts : List Triple) → count_in f (s ∷ ts) ≤ 1 → count_in f ts ≤ 1
  unfolding count_in
  rest_low s ts l = omega (arith, one_more (f s) (count_in f ts))

  -- two that pass are one
  pub only_one :
      (ts : List Triple) → count_in f ts ≤ 1 → (s t : Triple) → Among s ts → Among t ts → f s ≡ true → f t ≡ true → s ≡ t
  only_one [] l s t p q hs ht = elim p [ ]
  only_one (r ∷ ts) l s t (inl p) (inl q) hs ht = sym p ∙ q
  only_one (r ∷ ts) l s t (inl p) (inr q) hs ht =
      bool_not_both (f t) ht (none_counted t ts q (first_only r ts l (ap f p ∙ hs)))
  only_one (r ∷ ts) l s t (inr p) (inl q) hs ht =
      bool_not_both (f s) hs (none_counted s ts p (first_only r ts l (ap f q ∙ ht)))
  only_one (r ∷ ts) l s t (inr p) (inr q) hs ht = only_one ts (rest_low r ts l) s t p q hs ht

-- ---- the plan's triples are of units that there are
abbrev in_range : Geometry → Triple → Bool
in_range G s = ltb s.restores (units_of G) && (ltb s.disk (disks_of G) && ltb s.unit (units_of G))

module _ (G : Geometry) (d : List ℕ) (L : Laid G d) (x : ℕ) (hx : x < disks_of G) where
  abbrev out_of : Triple → Bool
  out_of s = not (in_range G s)

  out_none : count_in (λ (s : Triple). not (in_range G s)) (triples_in (plan_of G d x)) ≡ 0
  out_none =
      plan_count G d x out_of
      ∙ total_none (hit G d x out_of) (λ (y : ℕ). size_of G (unit_cell G d x y)) (units_of G)
      (λ y e hy he. no_hit G d x L hx out_of y e hy he (λ h. never y e hy h))
    where
      never : (y e : ℕ) → y < units_of G → Hit G d x L hx out_of y e → ⊥
      never y e hy h =
          let s : Cell = source_of G (unit_cell G d x y) e in
          let w = (cells_are_places G d L).there s (source_valid G d x L hx y e h.source) in
          bool_not_both (in_range G (triple_at G d y s))
          (both_and _ _ (lt-ltb y (units_of G) hy)
          (both_and _ _ (lt-ltb (place_of G d s).disk.0 (disks_of G) w.disk)
          (lt-ltb (place_of G d s).unit.0 (units_of G) w.unit)))
          (not-true (in_range G (triple_at G d y s)) h.passes)

  pub in_range_lem :
      (s : Triple) → Among s (triples_in (plan_of G d x)) →
      (s.restores < units_of G) × (s.disk < disks_of G) × (s.unit < units_of G)
  in_range_lem s m =
      let h = none_counted out_of s (triples_in (plan_of G d x)) m out_none in
      let one = and_both (ltb s.restores (units_of G)) _ (not-false (in_range G s) h) in
      let two = and_both (ltb s.disk (disks_of G)) (ltb s.unit (units_of G)) one.1 in (
        ltb-true s.restores (units_of G) one.0,
        ltb-true s.disk (disks_of G) two.0,
        ltb-true s.unit (units_of G) two.1,
      )
