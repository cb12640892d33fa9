-- 000, equation 1: "Tuple T0: 0, 2, 6; Tuple T1: 0, 1, 3; Tuple T2: 1, 2, 4; Tuple T3: 2, 3, 5; Tuple T4: 3, 4, 6;
-- Tuple T5: 0, 4, 5; Tuple T6: 1, 5, 6". Assumes nothing.
use Rattle.std.specs.Prelude.{ℕ, List, [], ◌∷◌}
use Rattle.geometry.specs.declared.Geometry.{Geometry}

abbrev pub F : List ℕ
F =
    0 ∷ 2 ∷ 6
    ∷ 0 ∷ 1 ∷ 3
    ∷ 1 ∷ 2 ∷ 4
    ∷ 2 ∷ 3 ∷ 5
    ∷ 3 ∷ 4 ∷ 6
    ∷ 0 ∷ 4 ∷ 5
    ∷ 1 ∷ 5 ∷ 6
    ∷ []

-- F's seven groups in rows of three, with g disks in a group and units of one byte
abbrev pub shelf : ℕ → Geometry
shelf g = record { v = 7; k = 3; g = g; u = 1 }
