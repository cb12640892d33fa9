-- The refusals of the calls on the array come exactly as 01 tables them. Assumes nothing.
use Prim.Native.Nat.{ℕ, ◌+◌, ◌≤◌, ◌<◌}
use mathlib.Core.Path.{◌≡◌}
use mathlib.Core.Logic.{◌⊎◌, inl, inr}
use mathlib.Core.Bool.{true, false, not, ◌&&◌}
use mathlib.Core.List.{List, ◌++◌}
use native.Mathlib.Decide.{dec_lt}
use native.Mathlib.Omega.{arith}
use lib.Dec.{ltb, leb, eqb}
use lib.ListN.{get_or, length}
use borrow.Author.Tests.{ltb-true, lt-ltb, leb-true, le-leb, eqb-false, ne_eqb, not-true}
use Rattle.counting.specs.Counting.{lowest, any_below}
use Rattle.counting.proofs.Bools.{bool_either, bool_not_both, both_and, and_left_false, and_right_false, not_is_true}
use Rattle.refusal.specs.Refusal.{Rule, rule, answer}
use Rattle.refusal.specs.Due.{Row, row, Exact}
use Rattle.refusal.proofs.Exactness.{Fit, Fits, zero_fit, fits_append, exact}
use Rattle.refusal.proofs.Firsts.{never_true, first_fit}
use Rattle.geometry.specs.declared.Geometry.{Geometry}
use Rattle.geometry.specs.Geometry.{disks_of, user_units_of, bytes_of}
use Rattle.sizes.specs.Sizes.{sizes_rules}
use Rattle.sizes.specs.Reasons.{sizes_rows}
use Rattle.sizes.proofs.Reasons.{sizes_fits}
use Rattle.array.specs.Rules.{array_fits, mark_high, array_rules, range_rules}
use Rattle.array.specs.Reasons.{OtherLength, LowestHigh, array_rows, range_rows}
use Rattle.array.proofs.Fits.{fits_above, fits_words, words_fits, mark_high_lem, high_mark}

module _ (G : Geometry) (bytes : ℕ) (marks : List ℕ) where
  other_words : not (array_fits G bytes && eqb (length marks) (disks_of G)) ≡ true → OtherLength G bytes marks
  other_words e = go (bool_either (array_fits G bytes)) (bool_either (eqb (length marks) (disks_of G))) (dec_lt 1073741824 (bytes_of G))
    where
      go :
          (array_fits G bytes ≡ true) ⊎ (array_fits G bytes ≡ false)
          → (eqb (length marks) (disks_of G) ≡ true) ⊎ (eqb (length marks) (disks_of G) ≡ false)
          → Dec (1073741824 < bytes_of G) → OtherLength G bytes marks
      go a m (yes l) = inr (inr l)
      go (inr a) m (no l) = inl (λ (q : bytes ≡ bytes_of G). bool_not_both (array_fits G bytes) (words_fits G bytes q (omega arith)) a)
      go (inl a) (inr m) (no l) = inr (inl (eqb-false (length marks) (disks_of G) m))
      go (inl a) (inl m) (no l) = bool_not_both (array_fits G bytes && eqb (length marks) (disks_of G)) (both_and _ _ a m) (not-true _ e)

  words_other : OtherLength G bytes marks → not (array_fits G bytes && eqb (length marks) (disks_of G)) ≡ true
  words_other (inl n) =
      not_is_true _ (and_left_false _ _ (never_true (array_fits G bytes) (λ (e : array_fits G bytes ≡ true). n (fits_words G bytes e).0)))
  words_other (inr (inl n)) = not_is_true _ (and_right_false (array_fits G bytes) _ (ne_eqb (length marks) (disks_of G) n))
  words_other (inr (inr l)) = not_is_true _ (and_left_false _ _ (fits_above G bytes l))

  fit_7 :
      Fit (rule 7 (not (array_fits G bytes && eqb (length marks) (disks_of G))) 0)
      (row 7 (λ (p : ℕ). (p ≡ 0) × OtherLength G bytes marks))
  fit_7 = zero_fit 7 _ (OtherLength G bytes marks) other_words words_other

  fit_8 : Fit (rule 8 (any_below (mark_high marks) (length marks)) (lowest (mark_high marks) (length marks))) (row 8 (LowestHigh marks))
  fit_8 = first_fit 8 (mark_high marks) (length marks) (λ (x : ℕ). 1 < get_or marks x 0) (high_mark marks) (mark_high_lem marks)

module _ (G : Geometry) (d : List ℕ) (bytes : ℕ) (marks : List ℕ) where
  pub array_rows_fit : Fits (array_rules G d bytes marks) (array_rows G d bytes marks)
  unfolding array_rules
  array_rows_fit =
      fits_append (sizes_rules G d) _ (sizes_rows G d) _ (sizes_fits G d)
      (λ _. (fit_7 G bytes marks, λ _. (fit_8 G bytes marks, λ _. tt)))

  -- "refusals come exactly as tabled": 2 to 8
  pub array_exact : {A : Type 0} (a : A) → Exact (array_rows G d bytes marks) (answer (array_rules G d bytes marks) a)
  array_exact a = exact (array_rules G d bytes marks) (array_rows G d bytes marks) a array_rows_fit

  module _ (m o n : ℕ) where
    pub range_rows_fit :
        (xs : List Rule) (ws : List Row) → Fits xs ws → Fits (range_rules G m o n ++ xs) (range_rows G m o n ++ ws)
    range_rows_fit xs ws f = (
      zero_fit 10 (leb (user_units_of G) m) (user_units_of G ≤ m) (leb-true (user_units_of G) m) (le-leb (user_units_of G) m),
      λ _. (zero_fit 11 (ltb G.u (o + n)) (G.u < o + n) (ltb-true G.u (o + n)) (lt-ltb G.u (o + n)), λ _. f),
    )
