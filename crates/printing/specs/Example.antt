-- 01's example of the plan printer, byte by byte, and a line for each other kind of answer. Assumes nothing.
use Rattle.std.specs.Prelude.{ℕ, ◌≡◌, List, [], ◌∷◌}
use Rattle.printing.specs.Shown.{shown}

-- "For `7 3 9` it prints", line by line
abbrev pub printed : List ℕ
printed =
    48 ∷ 32 ∷ 48 ∷ 32 ∷ 48 ∷ 10
    ∷ 48 ∷ 32 ∷ 51 ∷ 32 ∷ 48 ∷ 10
    ∷ 49 ∷ 32 ∷ 49 ∷ 32 ∷ 49 ∷ 10
    ∷ 49 ∷ 32 ∷ 53 ∷ 32 ∷ 49 ∷ 10
    ∷ 50 ∷ 32 ∷ 49 ∷ 48 ∷ 32 ∷ 48 ∷ 10
    ∷ 50 ∷ 32 ∷ 49 ∷ 49 ∷ 32 ∷ 49 ∷ 10
    ∷ 51 ∷ 32 ∷ 54 ∷ 32 ∷ 51 ∷ 10
    ∷ 51 ∷ 32 ∷ 49 ∷ 53 ∷ 32 ∷ 48 ∷ 10
    ∷ 52 ∷ 32 ∷ 56 ∷ 32 ∷ 52 ∷ 10
    ∷ 52 ∷ 32 ∷ 49 ∷ 54 ∷ 32 ∷ 49 ∷ 10
    ∷ 53 ∷ 32 ∷ 49 ∷ 48 ∷ 32 ∷ 51 ∷ 10
    ∷ 53 ∷ 32 ∷ 49 ∷ 49 ∷ 32 ∷ 52 ∷ 10
    ∷ 54 ∷ 32 ∷ 49 ∷ 50 ∷ 32 ∷ 51 ∷ 10
    ∷ 54 ∷ 32 ∷ 49 ∷ 56 ∷ 32 ∷ 48 ∷ 10
    ∷ 55 ∷ 32 ∷ 49 ∷ 51 ∷ 32 ∷ 52 ∷ 10
    ∷ 55 ∷ 32 ∷ 50 ∷ 48 ∷ 32 ∷ 49 ∷ 10
    ∷ 56 ∷ 32 ∷ 49 ∷ 48 ∷ 32 ∷ 54 ∷ 10
    ∷ 56 ∷ 32 ∷ 49 ∷ 49 ∷ 32 ∷ 55 ∷ 10
    ∷ []

pub record Lines : Type 0 where
  -- "7 3 9"
  pub the_example : shown (55 ∷ 32 ∷ 51 ∷ 32 ∷ 57 ∷ []) ≡ printed
  -- "8 3 9\n": refused 1
  pub no_set : shown (56 ∷ 32 ∷ 51 ∷ 32 ∷ 57 ∷ 10 ∷ []) ≡ 114 ∷ 101 ∷ 102 ∷ 117 ∷ 115 ∷ 101 ∷ 100 ∷ 32 ∷ 49 ∷ 10 ∷ []
  -- "7 4 28": refused 6
  pub not_prime : shown (55 ∷ 32 ∷ 52 ∷ 32 ∷ 50 ∷ 56 ∷ []) ≡ 114 ∷ 101 ∷ 102 ∷ 117 ∷ 115 ∷ 101 ∷ 100 ∷ 32 ∷ 54 ∷ 10 ∷ []
  -- "13 3 0": refused 6
  pub group_too_small : shown (49 ∷ 51 ∷ 32 ∷ 51 ∷ 32 ∷ 48 ∷ []) ≡ 114 ∷ 101 ∷ 102 ∷ 117 ∷ 115 ∷ 101 ∷ 100 ∷ 32 ∷ 54 ∷ 10 ∷ []
  -- "7 3 21": refused 9
  pub disk_too_high : shown (55 ∷ 32 ∷ 51 ∷ 32 ∷ 50 ∷ 49 ∷ []) ≡ 114 ∷ 101 ∷ 102 ∷ 117 ∷ 115 ∷ 101 ∷ 100 ∷ 32 ∷ 57 ∷ 10 ∷ []
  -- "7 3": unread
  pub another_form : shown (55 ∷ 32 ∷ 51 ∷ []) ≡ 117 ∷ 110 ∷ 114 ∷ 101 ∷ 97 ∷ 100 ∷ 10 ∷ []
