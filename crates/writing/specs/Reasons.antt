-- 01, "Refusal numbers", the rows of the write in words: 2 to 8 and 10 to 12. Assumes nothing.
use Rattle.std.specs.Prelude.{ℕ, ◌<◌, ◌≡◌, List, [], ◌∷◌, ◌++◌, get_or}
use Rattle.refusal.specs.Due.{Row, row}
use Rattle.geometry.specs.declared.Geometry.{Geometry}
use Rattle.layout.specs.declared.Four.{Four}
use Rattle.layout.specs.Places.{four_of}
use Rattle.array.specs.Reasons.{array_rows, range_rows}

-- the disks of "data, outer, inner of data, inner of outer"
abbrev pub four_disks : Four → List ℕ
four_disks f = f.user.disk.0 ∷ f.outer.disk.0 ∷ f.inner.disk.0 ∷ f.both.disk.0 ∷ []

-- p is the first of them, in this order, whose mark is 1
pub record FirstMarked (marks : List ℕ) (f : Four) (p : ℕ) : Type 0 where
  pub which : ℕ
  pub below : which < 4
  pub here : p ≡ get_or (four_disks f) which 0
  pub marked : get_or marks p 0 ≡ 1
  pub first : (e : ℕ) → e < which → get_or marks (get_or (four_disks f) e 0) 0 ≡ 1 → ⊥

-- 12: "any of its four disks marked", at the "first marked disk of data, outer, inner of data, inner of outer"
abbrev pub write_rows : Geometry → List ℕ → (bytes : ℕ) → (marks : List ℕ) → (m o n : ℕ) → List Row
write_rows G d bytes marks m o n =
    array_rows G d bytes marks
    ++ (range_rows G m o n ++ (row 12 (FirstMarked marks (four_of G d m)) ∷ []))
