-- 01, "Proved examples": the plan printer "reads one line, v, g and disk in decimal, one to nine digits each, with single
-- spaces, with or without a line end". Assumes nothing.
use Rattle.std.specs.Prelude.{ℕ, zero, suc, ◌+◌, ◌≡◌, ◌≢◌, Bool, true, false, cond, not, ◌&&◌, List, [], ◌∷◌, length, drop, eqb, Option, Some, None}
use Rattle.decimals.specs.Decimal.{is_digit, decimal, space, line_end}
use Rattle.lines.specs.declared.Question.{Question}

-- the digits at the front, n at most
unfoldable pub front : (n : ℕ) → List ℕ → List ℕ
front zero xs = []
front (suc n) [] = []
front (suc n) (x ∷ xs) = cond (is_digit x) (x ∷ front n xs) []

-- a digit comes first
abbrev pub starts_digit : List ℕ → Bool
starts_digit [] = false
starts_digit (x ∷ xs) = is_digit x

-- a space comes first
abbrev pub spaced : List ℕ → Bool
spaced [] = false
spaced (x ∷ xs) = eqb x space

-- "with or without a line end": nothing comes but a line end
abbrev pub ended : List ℕ → Bool
ended [] = true
ended (x ∷ []) = eqb x line_end
ended (x ∷ y ∷ xs) = false

-- "one to nine digits each"
abbrev pub most : ℕ
most = 9

-- the digits at the front, nine at most, if what comes after them passes the test, and else none
unfoldable pub field : (List ℕ → Bool) → List ℕ → List ℕ
field test xs = cond (test (drop (length (front most xs)) xs)) (front most xs) []

-- what comes after the first number and its space
unfoldable pub past : List ℕ → List ℕ
past xs = drop (length (field spaced xs) + 1) xs

abbrev pub v_in : List ℕ → List ℕ
v_in line = field spaced line

abbrev pub g_in : List ℕ → List ℕ
g_in line = field spaced (past line)

abbrev pub disk_in : List ℕ → List ℕ
disk_in line = field ended (past (past line))

abbrev pub some : List ℕ → Bool
some xs = not (eqb (length xs) 0)

abbrev pub question : (v g disk : ℕ) → Question
question v g disk = record { v = v; g = g; disk = disk }

-- what the line asks
unfoldable pub parsed : List ℕ → Option Question
parsed line =
    cond (some (v_in line) && (some (g_in line) && some (disk_in line)))
    (Some (question (decimal (v_in line)) (decimal (g_in line)) (decimal (disk_in line))))
    None

-- n is the number of the digits, which are one at least, and e what comes after them
abbrev pub Reads : (digits after : List ℕ) (n : ℕ) (e : List ℕ) → Type 0
Reads digits after n e = (digits ≢ []) × (n ≡ decimal digits) × (e ≡ after)
