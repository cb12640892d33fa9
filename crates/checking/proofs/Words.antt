-- The tests of rows 2 to 5 against what the rows say in words. Assumes nothing.
use Prim.Native.Nat.{ℕ, ◌+◌, ◌-◌, ◌*◌, ◌/◌, ◌%◌, ◌<◌}
use mathlib.Core.Path.{◌≡◌, refl}
use mathlib.Core.Logic.{◌⊎◌, inl, inr}
use mathlib.Core.Bool.{Bool, true, false, not, ◌&&◌, ◌||◌}
use mathlib.Core.List.{List}
use native.Mathlib.Nat.{mul-div_cancel, mod-lt}
use native.Mathlib.Omega.{arith}
use lib.ListN.{length}
use lib.Dec.{ltb, leb, eqb}
use borrow.Author.Tests.{lt-ltb, ltb-true, le-leb, leb-true, eqb-true, eqb-false, ne_eqb, not-true}
use Rattle.counting.specs.Counting.{any_below}
use Rattle.counting.proofs.Bools.{bool_either, and_both, both_and, or_one, left_or, right_or, not_is_true}
use Rattle.counting.proofs.Laws.{any_true, any_witness, count_one, count_one_is}
use Rattle.geometry.specs.Geometry.{Limits, beyond_limits, r_of, b_of, whole}
use Rattle.geometry.proofs.Laws.{limits_of, tuple_pos}
use Rattle.design.specs.Design.{group_at, names, InRow, OneRow}
use Rattle.checking.specs.Rules.{row_bad, rows_with, pair_bad}
use Rattle.checking.specs.Reasons.{BeyondLimits, NotWhole, BadRow, BadPair}
use Rattle.refusal.proofs.Firsts.{never_true}
use Rattle.design.proofs.Rows.{names_in, in_names}

-- ---- row 2

-- each of five tests joined by "or"
or_five :
    (a b c d e : Bool) → (a || b || c || d || e) ≡ true
    → (a ≡ true) ⊎ ((b ≡ true) ⊎ ((c ≡ true) ⊎ ((d ≡ true) ⊎ (e ≡ true))))
or_five true b c d e h = inl refl
or_five false true c d e h = inr (inl refl)
or_five false false true d e h = inr (inr (inl refl))
or_five false false false true e h = inr (inr (inr (inl refl)))
or_five false false false false e h = inr (inr (inr (inr h)))

module _ (v k : ℕ) where
  pub beyond_words : beyond_limits v k ≡ true → BeyondLimits v k
  unfolding beyond_limits
  beyond_words h = go (or_five (ltb v 2) (ltb 91 v) (ltb k 2) (ltb 10 k) (ltb v k) h)
    where
      go :
          (ltb v 2 ≡ true) ⊎ ((ltb 91 v ≡ true) ⊎ ((ltb k 2 ≡ true) ⊎ ((ltb 10 k ≡ true) ⊎ (ltb v k ≡ true))))
          → BeyondLimits v k
      go (inl e) = inl (ltb-true v 2 e)
      go (inr (inl e)) = inr (inl (ltb-true 91 v e))
      go (inr (inr (inl e))) = inr (inr (inl (ltb-true k 2 e)))
      go (inr (inr (inr (inl e)))) = inr (inr (inr (inl (ltb-true 10 k e))))
      go (inr (inr (inr (inr e)))) = inr (inr (inr (inr (ltb-true v k e))))

  limits_not_beyond : Limits v k → BeyondLimits v k → ⊥
  limits_not_beyond L (inl e) = omega arith
  limits_not_beyond L (inr (inl e)) = omega arith
  limits_not_beyond L (inr (inr (inl e))) = omega arith
  limits_not_beyond L (inr (inr (inr (inl e)))) = omega arith
  limits_not_beyond L (inr (inr (inr (inr e)))) = omega arith

  pub words_beyond : BeyondLimits v k → beyond_limits v k ≡ true
  words_beyond h = go (bool_either (beyond_limits v k))
    where
      go : (beyond_limits v k ≡ true) ⊎ (beyond_limits v k ≡ false) → beyond_limits v k ≡ true
      go (inl e) = e
      go (inr e) = absurd (limits_not_beyond (limits_of v k e) h)

-- ---- row 3

-- each of three tests joined by "and"
all_fails :
    (a b c : Bool) → not (a && b && c) ≡ true → (a ≡ false) ⊎ ((b ≡ false) ⊎ ((b ≡ true) × (c ≡ false)))
all_fails true true c h = inr (inr (refl, not-true c h))
all_fails true false c h = inr (inl refl)
all_fails false b c h = inl refl

-- a quotient that some number is, the division gives
pub quotient_is : (q m n : ℕ) → 0 < m → q * m ≡ n → n / m ≡ q
quotient_is q m n h e = rw (← e) (mul-div_cancel q h)

-- "r = (v-1)/(k-1) and b = v(v-1)/(k(k-1))" by multiplication
pub whole_parts :
    (v k : ℕ) → whole v k ≡ true
    → (r_of v k * (k - 1) ≡ v - 1) × (b_of v k * (k * (k - 1)) ≡ v * (v - 1))
unfolding whole
whole_parts v k h =
    let w = and_both (eqb (r_of v k * (k - 1)) (v - 1)) (eqb (b_of v k * (k * (k - 1))) (v * (v - 1))) h in
    (eqb-true (r_of v k * (k - 1)) (v - 1) w.0, eqb-true (b_of v k * (k * (k - 1))) (v * (v - 1)) w.1)

module _ (v k : ℕ) (L : Limits v k) where
  below_pos : 0 < k - 1
  below_pos = omega arith

  pub r_is : (r : ℕ) → r * (k - 1) ≡ v - 1 → r_of v k ≡ r
  unfolding r_of
  r_is r e = quotient_is r (k - 1) (v - 1) below_pos e

  pub b_is : (b : ℕ) → b * (k * (k - 1)) ≡ v * (v - 1) → b_of v k ≡ b
  unfolding b_of
  b_is b e = quotient_is b (k * (k - 1)) (v * (v - 1)) (tuple_pos v k L) e

  module _ (d : List ℕ) where
    pub whole_words : not (whole v k && eqb (length d) (b_of v k * k)) ≡ true → NotWhole v k d
    unfolding whole
    whole_words h =
        go
        (all_fails (eqb (r_of v k * (k - 1)) (v - 1)) (eqb (b_of v k * (k * (k - 1))) (v * (v - 1)))
        (eqb (length d) (b_of v k * k)) h)
      where
        go :
            (eqb (r_of v k * (k - 1)) (v - 1) ≡ false)
            ⊎ ((eqb (b_of v k * (k * (k - 1))) (v * (v - 1)) ≡ false)
            ⊎ ((eqb (b_of v k * (k * (k - 1))) (v * (v - 1)) ≡ true) × (eqb (length d) (b_of v k * k) ≡ false)))
            → NotWhole v k d
        go (inl e) = inl (λ (r : ℕ) (f : r * (k - 1) ≡ v - 1). eqb-false (r_of v k * (k - 1)) (v - 1) e (rw (r_is r f) f))
        go (inr (inl e)) =
            inr
            (inl
            (λ (b : ℕ) (f : b * (k * (k - 1)) ≡ v * (v - 1)).
            eqb-false (b_of v k * (k * (k - 1))) (v * (v - 1)) e (rw (b_is b f) f)))
        go (inr (inr e)) =
            inr
            (inr (
              b_of v k,
              eqb-true (b_of v k * (k * (k - 1))) (v * (v - 1)) e.0,
              eqb-false (length d) (b_of v k * k) e.1,
            ))

    pub words_whole : NotWhole v k d → not (whole v k && eqb (length d) (b_of v k * k)) ≡ true
    words_whole h = not_is_true (whole v k && eqb (length d) (b_of v k * k)) (never_true (whole v k && eqb (length d) (b_of v k * k)) (fails h))
      where
        fails : NotWhole v k d → (whole v k && eqb (length d) (b_of v k * k)) ≡ true → ⊥
        fails n e =
            let w = and_both (whole v k) (eqb (length d) (b_of v k * k)) e in
            let f = whole_parts v k w.0 in
            go n f.0 f.1 (eqb-true (length d) (b_of v k * k) w.1)
          where
            go :
                NotWhole v k d → r_of v k * (k - 1) ≡ v - 1 → b_of v k * (k * (k - 1)) ≡ v * (v - 1)
                → length d ≡ b_of v k * k → ⊥
            go (inl x) r b l = x (r_of v k) r
            go (inr (inl x)) r b l = x (b_of v k) b
            go (inr (inr x)) r b l = x.2 (rw (← (b_is x.0 x.1)) l)

-- ---- row 4

module _ (v k : ℕ) (d : List ℕ) (t : ℕ) where
  -- position l holds a group number of v or more; it holds no less than the next one
  abbrev too_high : ℕ → Bool
  too_high l = leb v (group_at k d t l)

  abbrev falling : ℕ → Bool
  falling l = leb (group_at k d t (l + 1)) (group_at k d t l)

  pub row_words : row_bad v k d t ≡ true → BadRow v k d t
  unfolding row_bad
  row_words h = go (or_one (any_below too_high k) (any_below falling (k - 1)) h)
    where
      go : (any_below too_high k ≡ true) ⊎ (any_below falling (k - 1) ≡ true) → BadRow v k d t
      go (inl e) = let w = any_witness too_high k e in inl (w.0, w.1, leb-true v (group_at k d t w.0) w.2)
      go (inr e) =
          let w = any_witness falling (k - 1) e in
          inr (w.0, omega arith, leb-true (group_at k d t (w.0 + 1)) (group_at k d t w.0) w.2)

  pub words_row : BadRow v k d t → row_bad v k d t ≡ true
  unfolding row_bad
  words_row (inl w) =
      left_or (any_below too_high k) (any_below falling (k - 1))
      (any_true too_high k w.0 w.1 (le-leb v (group_at k d t w.0) w.2))
  words_row (inr w) =
      right_or (any_below too_high k) (any_below falling (k - 1))
      (any_true falling (k - 1) w.0 (omega arith) (le-leb (group_at k d t (w.0 + 1)) (group_at k d t w.0) w.2))

-- ---- row 5

module _ (k b : ℕ) (d : List ℕ) (a c : ℕ) where
  -- row t names both groups
  abbrev both : ℕ → Bool
  both t = names k d a t && names k d c t

  pub one_row : rows_with k b d a c ≡ 1 → OneRow k b d a c
  unfolding rows_with
  one_row e =
      let w = count_one_is both b e in
      let n = and_both (names k d a w.0) (names k d c w.0) w.2 in
      record {
        tuple = w.0;
        below = w.1;
        left = names_in k d a w.0 n.0;
        right = names_in k d c w.0 n.1;
        only =
            λ (s : ℕ) (h : s < b) (x : InRow k d a s) (y : InRow k d c s).
            w.3 s h (both_and (names k d a s) (names k d c s) (in_names k d a s x) (in_names k d c s y));
      }

  pub row_one : OneRow k b d a c → rows_with k b d a c ≡ 1
  unfolding rows_with
  row_one o =
      count_one both b o.tuple o.below
      (both_and (names k d a o.tuple) (names k d c o.tuple) (in_names k d a o.tuple o.left)
      (in_names k d c o.tuple o.right))
      (λ (s : ℕ) (h : s < b) (e : both s ≡ true).
      let n = and_both (names k d a s) (names k d c s) e in
      o.only s h (names_in k d a s n.0) (names_in k d c s n.1))

module _ (v k : ℕ) (d : List ℕ) (m : ℕ) where
  pub pair_words : 0 < v → pair_bad v k d m ≡ true → BadPair v k d (m / v) (m % v)
  unfolding pair_bad
  pair_words pos h =
      let n = rows_with k (b_of v k) d (m / v) (m % v) in
      let w = and_both (ltb (m / v) (m % v)) (not (eqb n 1)) h in (
        ltb-true (m / v) (m % v) w.0,
        mod-lt m pos,
        λ (o : OneRow k (b_of v k) d (m / v) (m % v)).
            eqb-false n 1 (not-true (eqb n 1) w.1) (row_one k (b_of v k) d (m / v) (m % v) o),
      )

  pub words_pair : BadPair v k d (m / v) (m % v) → pair_bad v k d m ≡ true
  unfolding pair_bad
  words_pair w =
      let n = rows_with k (b_of v k) d (m / v) (m % v) in
      both_and (ltb (m / v) (m % v)) (not (eqb n 1)) (lt-ltb (m / v) (m % v) w.0)
      (not_is_true (eqb n 1) (ne_eqb n 1 (λ (e : n ≡ 1). w.2 (one_row k (b_of v k) d (m / v) (m % v) e))))
