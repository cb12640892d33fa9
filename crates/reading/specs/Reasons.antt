-- 01, "Refusal numbers", the rows of the read in words: 2 to 8 and 10 to 12. Assumes nothing.
use Rattle.std.specs.Prelude.{ℕ, ◌≡◌, List, [], ◌∷◌, ◌++◌, get_or}
use Rattle.refusal.specs.Due.{Row, row}
use Rattle.geometry.specs.declared.Geometry.{Geometry}
use Rattle.layout.specs.Places.{four_of}
use Rattle.array.specs.Reasons.{array_rows, range_rows}

-- 12: "data disk marked", at that disk
abbrev pub read_rows : Geometry → List ℕ → (bytes : ℕ) → (marks : List ℕ) → (m o n : ℕ) → List Row
read_rows G d bytes marks m o n =
    array_rows G d bytes marks
    ++ (range_rows G m o n
    ++ (row 12 (λ (p : ℕ). (p ≡ (four_of G d m).user.disk.0) × (get_or marks p 0 ≡ 1)) ∷ []))
