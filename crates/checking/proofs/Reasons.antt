-- Refusals 2 to 5 come exactly as 01 tables them. Assumes nothing.
use Prim.Native.Nat.{ℕ, ◌+◌, ◌*◌, ◌/◌, ◌%◌, ◌<◌, ◌≤◌}
use mathlib.Core.Path.{◌≡◌, sym, subst₂}
use mathlib.Core.Logic.{◌⊎◌, inl, inr}
use mathlib.Core.Bool.{not, ◌&&◌}
use mathlib.Core.List.{List}
use native.Mathlib.Nat.{div-add-mod', mul-le-mul_right}
use native.Mathlib.Decide.{dec_lt}
use native.Mathlib.Omega.{arith}
use lib.ListN.{length}
use lib.Dec.{eqb}
use lib.Arith.{digits_div, digits_mod, digits_lt, add-lt_cancel_left}
use Rattle.counting.specs.Counting.{lowest, any_below}
use Rattle.refusal.specs.Refusal.{rule}
use Rattle.refusal.specs.Due.{row}
use Rattle.refusal.proofs.Exactness.{Fit, Fits, zero_fit, fit_words, silent_fit, exact}
use Rattle.geometry.specs.Geometry.{beyond_limits, whole, b_of}
use Rattle.geometry.proofs.Laws.{limits_of}
use Rattle.checking.specs.Theorems.{RefusalsAreExact}
use Rattle.checking.specs.Rules.{row_bad, pair_bad, design_rules}
use Rattle.checking.specs.Reasons.{BeyondLimits, NotWhole, BadRow, BadPair, FirstBadPair, design_rows}
use Rattle.refusal.proofs.Firsts.{First, first_fit}
use Rattle.checking.proofs.Words.{beyond_words, words_beyond, whole_words, words_whole, row_words, words_row, pair_words, words_pair}

-- (x,y) stands before (a,c): "lowest a then b"
abbrev Before : (x y a c : ℕ) → Type 0
Before x y a c = (x < a) ⊎ ((x ≡ a) × (y < c))

-- the order of pairs is the order of the numbers a·v+c
before_lt : (v x y a c : ℕ) → y < v → Before x y a c → x * v + y < a * v + c
before_lt v x y a c h (inl e) = let s : x + 1 ≤ a = omega arith in omega (arith, mul-le-mul_right v s)
before_lt v x y a c h (inr e) = rw e.0 (omega arith)

lt_before : (v x y a c : ℕ) → c < v → x * v + y < a * v + c → Before x y a c
lt_before v x y a c h e = go (dec_lt x a) (dec_lt a x)
  where
    go : Dec (x < a) → Dec (a < x) → Before x y a c
    go (yes p) q = inl p
    go (no p) (yes q) = let s : a + 1 ≤ x = omega arith in absurd (omega (arith, mul-le-mul_right v s))
    go (no p) (no q) = let s : x ≡ a = omega arith in inr (s, add-lt_cancel_left (a * v) (rw s at e))

module _ (v k : ℕ) (d : List ℕ) (pos : 0 < v) where
  -- the pair that stands at number m
  abbrev At : ℕ → Type 0
  At m = BadPair v k d (m / v) (m % v)

  first_pair : (p : ℕ) → First At (v * v) p → FirstBadPair v k d p
  first_pair p h = (
    p / v,
    p % v,
    sym (div-add-mod' p v),
    h.1,
    λ (x y : ℕ) (o : Before x y (p / v) (p % v)) (w : BadPair v k d x y).
        h.2 (x * v + y) (rw div-add-mod' at (before_lt v x y (p / v) (p % v) w.1 o))
        (subst₂ (λ (a c : ℕ). BadPair v k d a c) (sym (digits_div x w.1)) (sym (digits_mod x w.1)) w),
  )

  pair_first : (p : ℕ) → FirstBadPair v k d p → First At (v * v) p
  pair_first p (a, c, e, w, before) =
      let quotient : p / v ≡ a = rw e (digits_div a w.1) in
      let rest : p % v ≡ c = rw e (digits_mod a w.1) in
      let high : a < v = omega arith in (
        rw e (digits_lt high w.1),
        subst₂ (λ (x y : ℕ). BadPair v k d x y) (sym quotient) (sym rest) w,
        λ (q : ℕ) (h : q < p) (bad : At q).
            let less : q / v * v + q % v < a * v + c = rw (div-add-mod' q v, ← e) h in
            before (q / v) (q % v) (lt_before v (q / v) (q % v) a c w.1 less) bad,
      )

  fit_5 : Fit (rule 5 (any_below (pair_bad v k d) (v * v)) (lowest (pair_bad v k d) (v * v))) (row 5 (FirstBadPair v k d))
  fit_5 =
      fit_words (rule 5 (any_below (pair_bad v k d) (v * v)) (lowest (pair_bad v k d) (v * v))) 5 (First At (v * v))
      (FirstBadPair v k d) first_pair pair_first
      (first_fit 5 (pair_bad v k d) (v * v) At (λ (m : ℕ). pair_words v k d m pos) (λ (m : ℕ). words_pair v k d m))

module _ (v k : ℕ) (d : List ℕ) where
  fit_2 : Fit (rule 2 (beyond_limits v k) 0) (row 2 (λ (p : ℕ). (p ≡ 0) × BeyondLimits v k))
  fit_2 = zero_fit 2 (beyond_limits v k) (BeyondLimits v k) (beyond_words v k) (words_beyond v k)

  -- rows 3 to 5 assume that row 2 is silent: v and k are within their limits
  pub design_fits : Fits (design_rules v k d) (design_rows v k d)
  unfolding design_rules
  design_fits = (
    fit_2,
    λ s.
        let L = limits_of v k (silent_fit (rule 2 (beyond_limits v k) 0) (row 2 (λ (p : ℕ). (p ≡ 0) × BeyondLimits v k)) fit_2 s) in (
          zero_fit 3 (not (whole v k && eqb (length d) (b_of v k * k))) (NotWhole v k d) (whole_words v k L d) (words_whole v k L d),
          λ _. (
            first_fit 4 (row_bad v k d) (b_of v k) (BadRow v k d) (row_words v k d) (words_row v k d),
            λ _. (fit_5 v k d (omega arith), λ _. tt),
          ),
        ),
  )

pub design_exact : RefusalsAreExact
design_exact v k d = exact (design_rules v k d) (design_rows v k d) tt (design_fits v k d)
