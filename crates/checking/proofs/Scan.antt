-- A scan upwards for the lowest number that passes a test. Assumes nothing.
use Prim.Native.Nat.{ℕ, ◌+◌, ◌≤◌, ◌<◌}
use mathlib.Core.Path.{◌≡◌, sym}
use mathlib.Core.Bool.{Bool, true, false}
use native.Mathlib.Omega.{arith}
use borrow.Author.Count.{below_more}
use Rattle.counting.specs.Counting.{lowest}
use Rattle.counting.proofs.Laws.{lowest_is, lowest_none}

-- what holds at i: nothing before it passes
pub record Scanned (f : ℕ → Bool) (n i : ℕ) : Type 0 where
  pub most : i ≤ n
  pub before : (j : ℕ) → j < i → f j ≡ false

pub scanned_none : (f : ℕ → Bool) (n : ℕ) → Scanned f n 0
scanned_none f n = record { most = omega arith; before = λ (j : ℕ) (h : j < 0). absurd (omega arith) }

pub scanned_next : (f : ℕ → Bool) (n i : ℕ) → Scanned f n i → i < n → f i ≡ false → Scanned f n (i + 1)
scanned_next f n i s h p = record { most = omega arith; before = below_more _ _ s.before p }

pub scanned_found : (f : ℕ → Bool) (n i : ℕ) → Scanned f n i → i < n → f i ≡ true → i ≡ lowest f n
scanned_found f n i s h p = sym (lowest_is f n i h p s.before)

pub scanned_all : (f : ℕ → Bool) (n i : ℕ) → Scanned f n i → n ≤ i → n ≡ lowest f n
scanned_all f n i s h = sym (lowest_none f n (λ (j : ℕ) (q : j < n). s.before j (omega arith)))
