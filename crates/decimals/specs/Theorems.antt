-- What is proved of decimals: the statements alone. Those over the call's own contract are `two_results` and `some_result`
-- (proofs/TwoResults.antt). Assumes nothing.
use Rattle.std.specs.Prelude.{ℕ, suc, ◌*◌, ◌^◌, ◌<◌, ◌≤◌, ◌≡◌, List, [], ◌∷◌, length, get_or}
use Rattle.decimals.specs.Decimal.{Digits, decimal, decimal_of, lines_of}

-- what is written is digits, one at least, and reads as the number
abbrev pub ADecimalReadsAsItsNumber : Type 0
ADecimalReadsAsItsNumber = (n : ℕ) → Digits (decimal_of n) × (1 ≤ length (decimal_of n)) × (decimal (decimal_of n) ≡ n)

-- only the decimal of 0 starts with a 0
abbrev pub NoLeadingZero : Type 0
NoLeadingZero = (n : ℕ) → get_or (decimal_of n) 0 0 ≡ 48 → n ≡ 0

-- k digits are enough for a number below the k-th power of ten
abbrev pub AsManyDigitsAsNeeded : Type 0
AsManyDigitsAsNeeded = (n k : ℕ) → 1 ≤ k → n < 10 ^ k → length (decimal_of n) ≤ k

abbrev pub AtMostTenDigits : Type 0
AtMostTenDigits = (n : ℕ) → n < 2 ^ 32 → length (decimal_of n) ≤ 10

-- the room that the lines of a list take, where its numbers have k digits at most
abbrev pub RoomForLines : Type 0
RoomForLines =
    (xs : List ℕ) (k : ℕ) → 1 ≤ k → ((i : ℕ) → i < length xs → get_or xs i 0 < 10 ^ k) → length (lines_of xs) ≤ length xs * suc k

-- two triples of 01's example, "2 10 0" and "8 11 7", are two lines
abbrev pub TwoTriples : Type 0
TwoTriples =
    lines_of (2 ∷ 10 ∷ 0 ∷ 8 ∷ 11 ∷ 7 ∷ [])
    ≡ 50 ∷ 32 ∷ 49 ∷ 48 ∷ 32 ∷ 48 ∷ 10 ∷ 56 ∷ 32 ∷ 49 ∷ 49 ∷ 32 ∷ 55 ∷ 10 ∷ []
