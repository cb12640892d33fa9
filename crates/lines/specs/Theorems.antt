-- What is proved of the line: the statements alone. Those over the call's own contract are `two_results` and `some_result`
-- (proofs/TwoResults.antt). Assumes nothing.
use Rattle.std.specs.Prelude.{ℕ, ◌≤◌, ◌≡◌, ◌⊎◌, List, [], ◌∷◌, ◌++◌, length, Some, None}
use Rattle.decimals.specs.Decimal.{Digits, decimal, space, line_end}
use Rattle.lines.specs.Line.{question, parsed}

-- "in decimal, one to nine digits": xs stands for n
pub record Decimal (xs : List ℕ) (n : ℕ) : Type 0 where
  pub digits : Digits xs
  pub one : 1 ≤ length xs
  pub nine : length xs ≤ 9
  pub value : decimal xs ≡ n

-- "v, g and disk in decimal, one to nine digits each, with single spaces, with or without a line end"
pub record Form (line : List ℕ) (v g disk : ℕ) : Type 0 where
  pub a : List ℕ
  pub b : List ℕ
  pub c : List ℕ
  pub e : List ℕ
  pub reads_v : Decimal a v
  pub reads_g : Decimal b g
  pub reads_disk : Decimal c disk
  pub end : (e ≡ []) ⊎ (e ≡ line_end ∷ [])
  pub written : line ≡ a ++ space ∷ b ++ space ∷ c ++ e

-- a line is read as v, g and disk exactly if it has the form of them
abbrev pub ALineIsReadExactlyIfItHasTheForm : Type 0
ALineIsReadExactlyIfItHasTheForm =
    (line : List ℕ) (v g disk : ℕ) →
    (parsed line ≡ Some (question v g disk) → Form line v g disk)
    × (Form line v g disk → parsed line ≡ Some (question v g disk))

-- "a line of another form", and no other, is not read
abbrev pub ALineOfAnotherFormIsUnread : Type 0
ALineOfAnotherFormIsUnread =
    (line : List ℕ) →
    (((v g disk : ℕ) → Form line v g disk → ⊥) → parsed line ≡ None)
    × (parsed line ≡ None → (v g disk : ℕ) → Form line v g disk → ⊥)

-- lines that are read and lines that are not, byte by byte
pub record Lines : Type 0 where
  -- "7 3 9"
  pub plain : parsed (55 ∷ 32 ∷ 51 ∷ 32 ∷ 57 ∷ []) ≡ Some (question 7 3 9)
  -- "007 3 9\n"
  pub leading_zeros : parsed (48 ∷ 48 ∷ 55 ∷ 32 ∷ 51 ∷ 32 ∷ 57 ∷ 10 ∷ []) ≡ Some (question 7 3 9)
  -- ""
  pub empty : parsed [] ≡ None
  -- "7 3"
  pub two_numbers : parsed (55 ∷ 32 ∷ 51 ∷ []) ≡ None
  -- "7  3 9"
  pub two_spaces : parsed (55 ∷ 32 ∷ 32 ∷ 51 ∷ 32 ∷ 57 ∷ []) ≡ None
  -- "7 3 9 "
  pub space_at_the_end : parsed (55 ∷ 32 ∷ 51 ∷ 32 ∷ 57 ∷ 32 ∷ []) ≡ None
  -- "7 3 9\r\n"
  pub carriage_return : parsed (55 ∷ 32 ∷ 51 ∷ 32 ∷ 57 ∷ 13 ∷ 10 ∷ []) ≡ None
  -- "+7 3 9"
  pub sign : parsed (43 ∷ 55 ∷ 32 ∷ 51 ∷ 32 ∷ 57 ∷ []) ≡ None
  -- "999999999 0 0"
  pub nine_digits : parsed (57 ∷ 57 ∷ 57 ∷ 57 ∷ 57 ∷ 57 ∷ 57 ∷ 57 ∷ 57 ∷ 32 ∷ 48 ∷ 32 ∷ 48 ∷ []) ≡ Some (question 999999999 0 0)
  -- "0000000007 3 9"
  pub ten_digits : parsed (48 ∷ 48 ∷ 48 ∷ 48 ∷ 48 ∷ 48 ∷ 48 ∷ 48 ∷ 48 ∷ 55 ∷ 32 ∷ 51 ∷ 32 ∷ 57 ∷ []) ≡ None
  -- "7 3 9\n7"
  pub text_after_the_line_end : parsed (55 ∷ 32 ∷ 51 ∷ 32 ∷ 57 ∷ 10 ∷ 55 ∷ []) ≡ None
  -- "7 3 9\n\n"
  pub two_line_ends : parsed (55 ∷ 32 ∷ 51 ∷ 32 ∷ 57 ∷ 10 ∷ 10 ∷ []) ≡ None
  -- "7\t3 9"
  pub tab : parsed (55 ∷ 9 ∷ 51 ∷ 32 ∷ 57 ∷ []) ≡ None
