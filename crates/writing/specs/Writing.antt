-- 01, "Refusal numbers", row 12 for the write, and which rows apply to it. Assumes nothing.
use Rattle.std.specs.Prelude.{ℕ, ◌<◌, Bool, cond, ◌||◌, List, [], ◌∷◌, ◌++◌}
use Rattle.refusal.specs.Refusal.{Rule, rule}
use Rattle.geometry.specs.declared.Geometry.{Geometry}
use Rattle.layout.specs.declared.Four.{Four}
use Rattle.layout.specs.Places.{four_of}
use Rattle.layout.specs.Marks.{lost}
use Rattle.array.specs.Rules.{array_rules, range_rules}

-- "any of its four disks marked"
unfoldable pub four_lost : Geometry → (marks : List ℕ) → Four → Bool
four_lost G marks f = lost G marks f.user || lost G marks f.outer || lost G marks f.inner || lost G marks f.both

-- "first marked disk of data, outer, inner of data, inner of outer" [one is marked]
unfoldable pub first_lost : Geometry → (marks : List ℕ) → Four → ℕ
first_lost G marks f =
    cond (lost G marks f.user) f.user.disk.0
    (cond (lost G marks f.outer) f.outer.disk.0
    (cond (lost G marks f.inner) f.inner.disk.0 f.both.disk.0))

-- each of the four disks has one of n marks
pub record FourMarked (n : ℕ) (f : Four) : Type 0 where
  pub user : f.user.disk.0 < n
  pub outer : f.outer.disk.0 < n
  pub inner : f.inner.disk.0 < n
  pub both : f.both.disk.0 < n

-- rows 2 to 8 and 10 to 12
unfoldable pub write_rules : Geometry → (design : List ℕ) → (bytes : ℕ) → (marks : List ℕ) → (m o n : ℕ) → List Rule
write_rules G d bytes marks m o n =
    array_rules G d bytes marks
    ++ (range_rules G m o n ++ (rule 12 (four_lost G marks (four_of G d m)) (first_lost G marks (four_of G d m)) ∷ []))
