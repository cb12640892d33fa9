-- 01's example of the plan: v = 7, g = 3, disk 9, of the held design of 7. Assumes nothing.
use Rattle.std.specs.Prelude.{ℕ, ◌≡◌, List, [], ◌∷◌}
use Rattle.cells.specs.Figure.{shelf}
use Rattle.sources.specs.Plan.{plan_of}

-- "0,1,3", developed modulo 7 and sorted
abbrev pub held_seven : List ℕ
held_seven =
    0 ∷ 1 ∷ 3 ∷ 1 ∷ 2 ∷ 4 ∷ 2 ∷ 3 ∷ 5 ∷ 3 ∷ 4 ∷ 6 ∷ 0 ∷ 4 ∷ 5 ∷ 1 ∷ 5 ∷ 6 ∷ 0 ∷ 2 ∷ 6 ∷ []

-- "For `7 3 9` it prints"
abbrev pub Printed : Type 0
Printed =
    plan_of shelf held_seven 9
    ≡ 0 ∷ 0 ∷ 0 ∷ 0 ∷ 3 ∷ 0 ∷ 1 ∷ 1 ∷ 1 ∷ 1 ∷ 5 ∷ 1 ∷ 2 ∷ 10 ∷ 0 ∷ 2 ∷ 11 ∷ 1 ∷ 3 ∷ 6 ∷ 3 ∷ 3 ∷ 15 ∷ 0 ∷ 4 ∷ 8 ∷ 4
    ∷ 4 ∷ 16 ∷ 1 ∷ 5 ∷ 10 ∷ 3 ∷ 5 ∷ 11 ∷ 4 ∷ 6 ∷ 12 ∷ 3 ∷ 6 ∷ 18 ∷ 0 ∷ 7 ∷ 13 ∷ 4 ∷ 7 ∷ 20 ∷ 1 ∷ 8 ∷ 10 ∷ 6 ∷ 8 ∷ 11
    ∷ 7 ∷ []
