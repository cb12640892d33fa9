-- Numbers of which each is below the next. Assumes nothing.
use Prim.Native.Nat.{ℕ, zero, suc, ◌+◌, ◌≤◌, ◌<◌}
use mathlib.Core.Path.{◌≡◌}
use native.Mathlib.Decide.{dec_lt}
use native.Mathlib.Numerals.{add-one}
use native.Mathlib.Omega.{arith}

module _ (r : ℕ → ℕ) (k : ℕ) (asc : (l : ℕ) → l + 1 < k → r l < r (l + 1)) where
  -- from any place to any later one
  pub ascends_far : (l m : ℕ) → l < m → m < k → r l < r m
  ascends_far l zero h q = omega arith
  ascends_far l (suc m) h q =
      step (dec_lt l m) (rw add-one at (asc m (omega arith))) (λ e. ascends_far l m e (omega arith))
    where
      step : Dec (l < m) → r m < r (suc m) → (l < m → r l < r m) → r l < r (suc m)
      step (yes e) next before = let y = before e in omega arith
      step (no e) next before = let y : l ≡ m = omega arith in rw y next

  pub ascends_le : (l m : ℕ) → l ≤ m → m < k → r l ≤ r m
  ascends_le l m h q = step (dec_lt l m)
    where
      step : Dec (l < m) → r l ≤ r m
      step (yes e) = let y = ascends_far l m e q in omega arith
      step (no e) = let y : l ≡ m = omega arith in rw y (omega arith)
