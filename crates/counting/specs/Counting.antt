-- How many numbers below n pass a test, which is the lowest, and which is the p-th, from 0: the words in which 01 names
-- places, parts and tuples. Assumes nothing.
use Rattle.std.specs.Prelude.{ℕ, zero, suc, Bool, true, false, ◌&&◌, ltb, eqb, Option, Some, None}

-- one more where the test passes
abbrev pub one_more_if : Bool → ℕ → ℕ
one_more_if true n = suc n
one_more_if false n = n

-- how many i below n pass the test
unfoldable pub count_below : (ℕ → Bool) → ℕ → ℕ
count_below f zero = zero
count_below f (suc n) = one_more_if (f n) (count_below f n)

-- the lowest of the first n + 1 numbers from the lowest of the first n: `found` says that there is one, `here` that n passes
abbrev pub lowest_step : (found here : Bool) → (low n : ℕ) → ℕ
lowest_step true here low n = low
lowest_step false true low n = n
lowest_step false false low n = suc n

-- the lowest i below n that passes the test, and n where none does
unfoldable pub lowest : (ℕ → Bool) → ℕ → ℕ
lowest f zero = zero
lowest f (suc n) = lowest_step (ltb (lowest f n) n) (f n) (lowest f n) n

-- some i below n passes the test
abbrev pub any_below : (ℕ → Bool) → ℕ → Bool
any_below f n = ltb (lowest f n) n

-- a number where the test passes
abbrev pub some_if : Bool → ℕ → Option ℕ
some_if true i = Some i
some_if false i = None

-- the lowest i below n that passes the test, if there is one
abbrev pub first_below : (ℕ → Bool) → ℕ → Option ℕ
first_below f n = some_if (any_below f n) (lowest f n)

-- the p-th i below n, counted from 0, that passes the test, and n where fewer do
abbrev pub nth_below : (ℕ → Bool) → ℕ → ℕ → ℕ
nth_below f n p = lowest (λ (i : ℕ). f i && eqb (count_below f i) p) n
