-- What is proved of the audit: the proofs of specs/Theorems.antt, in its order. Assumes nothing.
use Prim.Native.Nat.{ℕ, ◌≤◌, ◌<◌}
use mathlib.Core.Path.{◌≡◌, refl, ap, subst⁻¹, ◌∙◌}
use mathlib.Core.Bool.{Bool, true, false, not}
use mathlib.Core.Logic.{◌⊎◌, inl, inr}
use mathlib.Core.List.{List}
use native.Mathlib.Omega.{arith}
use lib.Dec.{ltb}
use Rattle.std.specs.Prelude.{unwrap_or}
use borrow.Author.Tests.{lt-ltb, le-ltb, ltb-true, ltb-false, not-true}
use Rattle.counting.specs.Counting.{count_below, lowest, some_if}
use Rattle.counting.proofs.Bools.{bool_either, bool_not_both, not_is_true, not_is_false}
use Rattle.counting.proofs.Laws.{count_zero, count_more, count_same_more, count_none, count_lt, lowest_holds, lowest_before}
use Rattle.geometry.specs.declared.Geometry.{Geometry}
use Rattle.geometry.specs.Geometry.{sets_of}
use Rattle.consistent.specs.Consistent.{set_zero, Consistent}
use Rattle.finding.specs.Bad.{bad_below, lowest_bad, found_below, audit_of}
use Rattle.finding.specs.Theorems.{NoneBadExactlyIfConsistent, Bad, Lowest, TheNumberIsTheLowestBadSet, CountsSets, TheCountIsOfTheBadSets}

module _ (G : Geometry) (d a : List ℕ) where
  abbrev is_bad : ℕ → Bool
  is_bad s = not (set_zero G d a s)

  abbrev first : ℕ
  first = lowest is_bad (sets_of G)

  bad_is : (audit_of G d a).bad ≡ count_below is_bad (sets_of G)
  unfolding audit_of found_below bad_below
  bad_is = refl

  -- a set that counts is bad, and a bad one counts
  counts : (s : ℕ) → s < sets_of G → set_zero G d a s ≡ false → 0 < (audit_of G d a).bad
  counts s h e = omega (arith, bad_is, count_lt is_bad s (sets_of G) h (not_is_true _ e))

  none_bad : (audit_of G d a).bad ≡ 0 → Consistent G d a
  none_bad e s h = go (bool_either (set_zero G d a s))
    where
      go : (set_zero G d a s ≡ true) ⊎ (set_zero G d a s ≡ false) → set_zero G d a s ≡ true
      go (inl q) = q
      go (inr q) = let l : 0 < (audit_of G d a).bad = counts s h q in absurd (omega arith)

  consistent_none : Consistent G d a → (audit_of G d a).bad ≡ 0
  consistent_none f = bad_is ∙ count_none is_bad (sets_of G) (λ (s : ℕ) (h : s < sets_of G). not_is_false _ (f s h))

  -- the number where some set is bad, and where none is
  number_some : first < sets_of G → (audit_of G d a).lowest ≡ first
  unfolding audit_of found_below lowest_bad
  number_some h = ap (λ (b : Bool). unwrap_or (some_if b first) 0) (lt-ltb first (sets_of G) h)

  number_none : sets_of G ≤ first → (audit_of G d a).lowest ≡ 0
  unfolding audit_of found_below lowest_bad
  number_none h = ap (λ (b : Bool). unwrap_or (some_if b first) 0) (le-ltb first (sets_of G) h)

  first_bad : first < sets_of G → Bad G d a first
  first_bad h = (h, not-true _ (lowest_holds is_bad (sets_of G) h))

  first_lowest : first < sets_of G → Lowest G d a first
  first_lowest h =
      record {
        is_bad = first_bad h;
        none_lower = λ (t : ℕ) (l : t < first) (b : Bad G d a t).
            bool_not_both (is_bad t) (not_is_true _ b.1) (lowest_before is_bad (sets_of G) t l);
      }

  lowest_number :
      (((audit_of G d a).bad ≡ 0) × ((audit_of G d a).lowest ≡ 0)) ⊎ ((0 < (audit_of G d a).bad) × Lowest G d a (audit_of G d a).lowest)
  lowest_number = go (bool_either (ltb first (sets_of G)))
    where
      go :
          (ltb first (sets_of G) ≡ true) ⊎ (ltb first (sets_of G) ≡ false)
          → (((audit_of G d a).bad ≡ 0) × ((audit_of G d a).lowest ≡ 0)) ⊎ ((0 < (audit_of G d a).bad) × Lowest G d a (audit_of G d a).lowest)
      go (inl q) =
          let h : first < sets_of G = ltb-true first (sets_of G) q in
          inr (counts first h (first_bad h).1, subst⁻¹ (Lowest G d a) (number_some h) (first_lowest h))
      go (inr q) =
          let h : sets_of G ≤ first = ltb-false first (sets_of G) q in
          inl (bad_is ∙ count_none is_bad (sets_of G) (λ (s : ℕ) (l : s < sets_of G). lowest_before is_bad (sets_of G) s (omega arith)), number_none h)

  set_by_set : CountsSets G d a
  unfolding bad_below
  set_by_set =
      record {
        none = count_zero is_bad;
        fine = λ (s : ℕ) (e : set_zero G d a s ≡ true). count_same_more is_bad s (not_is_false _ e);
        one_more = λ (s : ℕ) (e : set_zero G d a s ≡ false). count_more is_bad s (not_is_true _ e);
      }

pub none_bad_exactly_if_consistent : NoneBadExactlyIfConsistent
none_bad_exactly_if_consistent G d a = (none_bad G d a, consistent_none G d a)

pub the_number_is_the_lowest_bad_set : TheNumberIsTheLowestBadSet
the_number_is_the_lowest_bad_set G d a = lowest_number G d a

pub the_count_is_of_the_bad_sets : TheCountIsOfTheBadSets
the_count_is_of_the_bad_sets G d a = set_by_set G d a
