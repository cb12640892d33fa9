-- 01, "Calls" (read) and "Refusal numbers", row 12 for the read. Assumes nothing.
use Rattle.std.specs.Prelude.{ℕ, ◌+◌, List, [], ◌∷◌, ◌++◌}
use Rattle.refusal.specs.Refusal.{Rule, rule}
use Rattle.geometry.specs.declared.Geometry.{Geometry}
use Rattle.cells.specs.Roles.{user_cell}
use Rattle.layout.specs.declared.Place.{Place}
use Rattle.layout.specs.Places.{four_of}
use Rattle.layout.specs.Marks.{lost}
use Rattle.leaves.specs.Bytes.{run}
use Rattle.array.specs.Array.{cell_start}
use Rattle.array.specs.Rules.{array_rules, range_rules}

-- "a byte range of one user unit": n bytes from offset o of user unit m
unfoldable pub read_of : Geometry → List ℕ → List ℕ → (m o n : ℕ) → List ℕ
read_of G d a m o n = run a (cell_start G d (user_cell G m) + o) n

-- 12: the disk of the place is marked
abbrev pub mark_rule : Geometry → (marks : List ℕ) → Place → Rule
mark_rule G marks p = rule 12 (lost G marks p) p.disk.0

-- rows 2 to 8 and 10 to 12: "data disk marked", at that disk
unfoldable pub read_rules : Geometry → (design : List ℕ) → (bytes : ℕ) → (marks : List ℕ) → (m o n : ℕ) → List Rule
read_rules G d bytes marks m o n =
    array_rules G d bytes marks ++ (range_rules G m o n ++ (mark_rule G marks (four_of G d m).user ∷ []))
