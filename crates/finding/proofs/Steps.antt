-- The count set by set: its laws, and that it is the count of the sets below a number. Assumes nothing.
use Prim.Native.Nat.{ℕ, zero, suc, ◌+◌, ◌≤◌, ◌<◌}
use mathlib.Core.Path.{◌≡◌, refl, sym, ap, ap₂, ◌∙◌}
use mathlib.Core.Bool.{Bool, true, false, not, cond}
use mathlib.Core.Logic.{◌⊎◌, inl, inr}
use mathlib.Core.List.{List}
use native.Mathlib.Nat.{add-zero, add-suc, add_assoc}
use native.Mathlib.Numerals.{add-one}
use native.Mathlib.Omega.{arith}
use lib.Dec.{ltb, eqb}
use Rattle.std.proofs.lemmas.Bool.Decides.{nat_tests}
use Rattle.std.specs.Prelude.{unwrap_or}
use borrow.Author.Tests.{ltb-true, ltb-false, eq-eqb, ne_eqb}
use Rattle.counting.specs.Counting.{count_below, lowest, lowest_step, some_if, first_below}
use Rattle.counting.proofs.Bools.{bool_either, not_is_true, not_is_false}
use Rattle.counting.proofs.Laws.{count_zero, count_le, count_more, count_same_more, count_none, count_lt, lowest_holds, lowest_before}
use Rattle.geometry.specs.declared.Geometry.{Geometry}
use Rattle.consistent.specs.Consistent.{set_zero}
use Rattle.finding.specs.declared.Found.{Found}
use Rattle.finding.specs.Bad.{bad_below, lowest_bad, found_below}
use Rattle.finding.specs.Steps.{with_set, after, found_from}

abbrev pub found : (bad lowest : ℕ) → Found
found b l = record { bad = b; lowest = l }

-- ---- sets from a number on
with_bad : (f : Found) (s : ℕ) (z : Bool) → (with_set f s z).bad ≤ f.bad + 1
with_bad f s true = omega arith
with_bad f s false = omega arith

module _ (z : ℕ → Bool) (f : Found) (s : ℕ) where
  pub from_none : found_from z f s 0 ≡ f
  unfolding found_from
  from_none = refl

  from_suc : (n : ℕ) → found_from z f s (suc n) ≡ with_set (found_from z f s n) (s + n) (z n)
  unfolding found_from
  from_suc n = refl

  pub from_more : (n : ℕ) → found_from z f s (n + 1) ≡ with_set (found_from z f s n) (s + n) (z n)
  from_more n = ap (found_from z f s) (add-one n) ∙ from_suc n

  pub from_next : (n : ℕ) (x y : Found) (b : Bool) → x ≡ found_from z f s n → y ≡ with_set x (s + n) b → b ≡ z n → y ≡ found_from z f s (n + 1)
  from_next n x y b h e q = e ∙ ap₂ (λ (w : Found) (c : Bool). with_set w (s + n) c) h q ∙ sym (from_more n)

  -- no more are bad than are counted
  pub from_bad : (n : ℕ) → (found_from z f s n).bad ≤ f.bad + n
  from_bad zero = rw from_none (omega arith)
  from_bad (suc n) =
      let h : (found_from z f s n).bad ≤ f.bad + n = from_bad n in
      let k : (with_set (found_from z f s n) (s + n) (z n)).bad ≤ (found_from z f s n).bad + 1 = with_bad (found_from z f s n) (s + n) (z n) in
      rw (from_suc n) (omega arith)

pub from_same :
    (z y : ℕ → Bool) (f : Found) (s n : ℕ) → ((i : ℕ) → i < n → z i ≡ y i) → found_from z f s n ≡ found_from y f s n
from_same z y f s zero e = from_none z f s ∙ sym (from_none y f s)
from_same z y f s (suc n) e =
    from_suc z f s n
    ∙ ap₂ (λ (x : Found) (b : Bool). with_set x (s + n) b) (from_same z y f s n (λ (i : ℕ) (p : i < n). e i (omega arith))) (e n (omega arith))
    ∙ sym (from_suc y f s n)

pub from_add :
    (z : ℕ → Bool) (f : Found) (s m n : ℕ)
    → found_from (λ (i : ℕ). z (m + i)) (found_from z f s m) (s + m) n ≡ found_from z f s (m + n)
from_add z f s m zero = from_none _ _ _ ∙ ap (found_from z f s) (sym (add-zero m))
from_add z f s m (suc n) =
    from_suc (λ (i : ℕ). z (m + i)) (found_from z f s m) (s + m) n
    ∙ ap₂ (λ (x : Found) (q : ℕ). with_set x q (z (m + n))) (from_add z f s m n) (add_assoc s m n)
    ∙ sym (from_suc z f s (m + n))
    ∙ ap (found_from z f s) (sym (add-suc m n))

-- ---- sets counted apart
after_set : (f x : Found) (s : ℕ) (z : Bool) → after (with_set x s z) f ≡ with_set (after x f) s z
after_set f x s true = refl
after_set f x s false = grind (arith, nat_tests)

-- they may be counted from nothing, and then be added
pub from_after : (z : ℕ → Bool) (f : Found) (s n : ℕ) → after (found_from z (found 0 0) s n) f ≡ found_from z f s n
from_after z f s zero = ap (λ (x : Found). after x f) (from_none z (found 0 0) s) ∙ sym (from_none z f s)
from_after z f s (suc n) =
    ap (λ (x : Found). after x f) (from_suc z (found 0 0) s n)
    ∙ after_set f (found_from z (found 0 0) s n) (s + n) (z n)
    ∙ ap (λ (x : Found). with_set x (s + n) (z n)) (from_after z f s n)
    ∙ sym (from_suc z f s n)

-- ---- sets below a number
or_zero : (t : Bool) (x : ℕ) → unwrap_or (some_if t x) 0 ≡ cond t x 0
or_zero true x = refl
or_zero false x = refl

module _ (b : ℕ → Bool) where
  -- the lowest of the first n, 0 if none
  abbrev low : ℕ → ℕ
  low n = unwrap_or (first_below b n) 0

  low_is : (n : ℕ) → low n ≡ cond (ltb (lowest b n) n) (lowest b n) 0
  low_is n = or_zero (ltb (lowest b n) n) (lowest b n)

  next_lowest : (n : ℕ) → lowest b (n + 1) ≡ lowest_step (ltb (lowest b n) n) (b n) (lowest b n) n
  unfolding lowest
  next_lowest n = rw add-one refl

  none_counted : (n : ℕ) → eqb (count_below b n) 0 ≡ not (ltb (lowest b n) n)
  none_counted n = go (bool_either (ltb (lowest b n) n))
    where
      go : (ltb (lowest b n) n ≡ true) ⊎ (ltb (lowest b n) n ≡ false) → eqb (count_below b n) 0 ≡ not (ltb (lowest b n) n)
      go (inl h) =
          let k : lowest b n < n = ltb-true (lowest b n) n h in
          let p : 0 < count_below b n = omega (arith, count_lt b (lowest b n) n k (lowest_holds b n k)) in
          ne_eqb (count_below b n) 0 (λ (x : count_below b n ≡ 0). omega arith) ∙ sym (ap not h)
      go (inr h) =
          let k : n ≤ lowest b n = ltb-false (lowest b n) n h in
          eq-eqb (count_below b n) 0 (count_none b n (λ (i : ℕ) (p : i < n). lowest_before b n i (omega arith))) ∙ sym (ap not h)

  low_fine : (n : ℕ) → b n ≡ false → low (n + 1) ≡ low n
  low_fine n e = rw (low_is n, low_is (n + 1), next_lowest n, e) (grind (arith, nat_tests))

  low_bad : (n : ℕ) → b n ≡ true → low (n + 1) ≡ cond (eqb (count_below b n) 0) n (low n)
  low_bad n e = rw (low_is n, low_is (n + 1), next_lowest n, e, none_counted n) (grind (arith, nat_tests))

module _ (G : Geometry) (d a : List ℕ) where
  abbrev is_bad : ℕ → Bool
  is_bad s = not (set_zero G d a s)

  pub below_more : (s : ℕ) → found_below G d a (s + 1) ≡ with_set (found_below G d a s) s (set_zero G d a s)
  unfolding found_below bad_below lowest_bad
  below_more s = go (set_zero G d a s) refl
    where
      go : (z : Bool) → set_zero G d a s ≡ z → found_below G d a (s + 1) ≡ with_set (found_below G d a s) s z
      go true e =
          let h : is_bad s ≡ false = not_is_false _ e in ap₂ found (count_same_more is_bad s h) (low_fine is_bad s h)
      go false e =
          let h : is_bad s ≡ true = not_is_true _ e in ap₂ found (count_more is_bad s h) (low_bad is_bad s h)

  pub below_none : found_below G d a 0 ≡ found 0 0
  unfolding found_below bad_below lowest_bad
  below_none = ap₂ found (count_zero is_bad) (grind (arith, nat_tests))

  pub below_bad : (n : ℕ) → (found_below G d a n).bad ≤ n
  unfolding found_below bad_below
  below_bad n = count_le is_bad n

  -- n sets more
  pub below_from :
      (z : ℕ → Bool) (s n : ℕ) → ((i : ℕ) → i < n → z i ≡ set_zero G d a (s + i))
      → found_from z (found_below G d a s) s n ≡ found_below G d a (s + n)
  below_from z s zero e = from_none z _ s ∙ ap (found_below G d a) (sym (add-zero s))
  below_from z s (suc n) e =
      from_suc z (found_below G d a s) s n
      ∙ ap₂ (λ (x : Found) (b : Bool). with_set x (s + n) b) (below_from z s n (λ (i : ℕ) (p : i < n). e i (omega arith))) (e n (omega arith))
      ∙ sym (below_more (s + n))
      ∙ ap (found_below G d a) (let q : s + n + 1 ≡ s + suc n = omega arith in q)
