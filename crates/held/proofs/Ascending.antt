-- Ascending numbers that are exactly those which pass a test: the l-th of them is the l-th lowest. Assumes nothing.
use Prim.Native.Nat.{ℕ, zero, suc, ◌+◌, ◌-◌, ◌≤◌, ◌<◌}
use mathlib.Core.Path.{◌≡◌, sym, ap, ◌∙◌}
use mathlib.Core.Bool.{Bool, true, false}
use mathlib.Core.Logic.{⊎_elim}
use native.Mathlib.Numerals.{add-one}
use native.Mathlib.Omega.{arith}
use native.Mathlib.Decide.{dec_lt}
use Rattle.counting.specs.Counting.{count_below, nth_below}
use Rattle.counting.proofs.Ascending.{ascends_le}
use Rattle.counting.proofs.Bools.{bool_either}
use Rattle.counting.proofs.Laws.{count_none, count_more, count_add, nth_count}

-- r 0 < r 1 < .. < r (k - 1) are the numbers below n that pass
pub record Listed (f : ℕ → Bool) (n k : ℕ) (r : ℕ → ℕ) : Type 0 where
  pub below : (l : ℕ) → l < k → r l < n
  pub ascends : (l : ℕ) → l + 1 < k → r l < r (l + 1)
  pub passes : (l : ℕ) → l < k → f (r l) ≡ true
  pub each : (x : ℕ) → f x ≡ true → (l : ℕ) × (l < k) × (r l ≡ x)

module _ (f : ℕ → Bool) (n k : ℕ) (r : ℕ → ℕ) (L : Listed f n k r) where
  -- none passes that is not one of them
  fails : (x : ℕ) → ((l : ℕ) → l < k → r l ≡ x → ⊥) → f x ≡ false
  fails x h = ⊎_elim (λ y. let w = L.each x y in absurd (h w.0 w.1 w.2)) (λ y. y) (bool_either (f x))

  upto : (l m : ℕ) → l ≤ m → m < k → r l ≤ r m
  upto = ascends_le r k L.ascends

  -- l of them stand before the l-th
  pub listed_count : (l : ℕ) → l < k → count_below f (r l) ≡ l
  listed_count zero h = count_none f (r 0) (λ x q. fails x (λ l p e. let y = upto 0 l (omega arith) p in omega arith))
  listed_count (suc l) h =
      let next : r l < r (suc l) = rw add-one at (L.ascends l (omega arith)) in
      let gap : ℕ = r (suc l) - (r l + 1) in
      let e : r (suc l) ≡ r l + 1 + gap = omega arith in
      let more : count_below f (r l + 1) ≡ count_below f (r l) + 1 = count_more f (r l) (L.passes l (omega arith)) in
      let none : count_below (λ (i : ℕ). f (r l + 1 + i)) gap ≡ 0 =
      count_none (λ (i : ℕ). f (r l + 1 + i)) gap
      (λ i q. fails (r l + 1 + i) (λ m p y. apart m p (dec_lt l m) (omega arith) (omega arith))) in
      let before : count_below f (r l) ≡ l = listed_count l (omega arith) in
      rw (e, count_add f (r l + 1) gap) (omega arith)
    where
      -- none of them stands between the l-th and the next
      apart : (m : ℕ) → m < k → Dec (l < m) → r l < r m → r m < r (suc l) → ⊥
      apart m p (yes y) a b = let t = upto (suc l) m (omega arith) p in omega arith
      apart m p (no y) a b = let t = upto m l (omega arith) (omega arith) in omega arith

  pub listed_nth : (l : ℕ) → l < k → nth_below f n l ≡ r l
  listed_nth l h =
      ap (nth_below f n) (sym (listed_count l h)) ∙ nth_count f n (r l) (L.below l h) (L.passes l h)
