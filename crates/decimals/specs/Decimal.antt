-- 01, "Proved examples": numbers "in decimal", as bytes, and "one triple a line". Assumes nothing.
use Rattle.std.specs.Prelude.{ℕ, zero, suc, ◌+◌, ◌-◌, ◌*◌, ◌/◌, ◌%◌, ◌≡◌, Bool, true, cond, ◌&&◌, List, [], ◌∷◌, ◌++◌, leb, ltb}

-- the bytes of 0 to 9 are 48 to 57
unfoldable pub is_digit : ℕ → Bool
is_digit x = leb 48 x && leb x 57

-- the byte of n [for n below 10]
abbrev pub digit : ℕ → ℕ
digit n = 48 + n

-- every byte is a digit
abbrev pub Digits : List ℕ → Type 0
Digits [] = Unit {0}
Digits (x ∷ xs) = (is_digit x ≡ true) × Digits xs

-- the number that the digits, 48 to 57, stand for, where n was read before them [each 48 or more]
unfoldable pub decimal_from : ℕ → List ℕ → ℕ
decimal_from n [] = n
decimal_from n (x ∷ xs) = decimal_from (n * 10 + (x - 48)) xs

-- the number that a string of digits stands for
abbrev pub decimal : List ℕ → ℕ
decimal xs = decimal_from 0 xs

-- the digits of a number below f
unfoldable pub digits_below : (f n : ℕ) → List ℕ
digits_below zero n = []
digits_below (suc f) n =
    let more = digits_below f (n / 10) ++ (digit (n % 10) ∷ []) in
    cond (ltb n 10) (digit n ∷ []) more

-- the digits of n, the highest first
abbrev pub decimal_of : ℕ → List ℕ
decimal_of n = digits_below (suc n) n

-- a number and the byte after it
unfoldable pub followed : (n by : ℕ) → List ℕ
followed n by = decimal_of n ++ (by ∷ [])

abbrev pub space : ℕ
space = 32

abbrev pub line_end : ℕ
line_end = 10

-- a triple on a line: single spaces, and a line end
unfoldable pub line_of : (x y z : ℕ) → List ℕ
line_of x y z = followed x space ++ followed y space ++ followed z line_end

-- "one triple a line", in the list's order; one or two numbers left over at its end are no triple
unfoldable pub lines_of : List ℕ → List ℕ
lines_of (x ∷ y ∷ z ∷ rest) = line_of x y z ++ lines_of rest
lines_of (x ∷ y ∷ []) = []
lines_of (x ∷ []) = []
lines_of [] = []
