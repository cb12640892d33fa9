-- 01, "Calls" (rebuild) and "Refusal numbers", row 13. Assumes nothing.
use Rattle.std.specs.Prelude.{ℕ, zero, suc, ◌+◌, List, [], ◌∷◌, ◌++◌, length}
use Rattle.counting.specs.Counting.{any_below, lowest}
use Rattle.refusal.specs.Refusal.{Rule, rule}
use Rattle.geometry.specs.declared.Geometry.{Geometry}
use Rattle.geometry.specs.Geometry.{tuples_of}
use Rattle.array.specs.Rules.{array_rules}
use Rattle.reaching.specs.Reach.{steps_of, incomplete}
use Rattle.replaying.specs.Replay.{replayed}

-- "Tuples go upwards": the array when the first n are rebuilt
unfoldable pub rebuilt_below : Geometry → List ℕ → (marks a : List ℕ) → (n : ℕ) → List ℕ
rebuilt_below G d marks a zero = a
rebuilt_below G d marks a (suc n) = replayed G d n (steps_of G d marks n) (rebuilt_below G d marks a n)

-- "the lost disks hold the result"
unfoldable pub rebuilt_of : Geometry → List ℕ → (marks a : List ℕ) → List ℕ
rebuilt_of G d marks a = rebuilt_below G d marks a (tuples_of G)

-- "the count of restored units" of the first n tuples, and of all
unfoldable pub restored_below : Geometry → List ℕ → (marks : List ℕ) → (n : ℕ) → ℕ
restored_below G d marks zero = 0
restored_below G d marks (suc n) = restored_below G d marks n + length (steps_of G d marks n)

unfoldable pub restored_of : Geometry → List ℕ → (marks : List ℕ) → ℕ
restored_of G d marks = restored_below G d marks (tuples_of G)

-- 13: "rebuild leaves a tuple incomplete", at the "lowest such tuple"
abbrev pub tuple_rule : Geometry → (design marks : List ℕ) → Rule
tuple_rule G d marks = rule 13 (any_below (incomplete G d marks) (tuples_of G)) (lowest (incomplete G d marks) (tuples_of G))

-- rows 2 to 8, and 13
unfoldable pub rebuild_rules : Geometry → (design : List ℕ) → (bytes : ℕ) → (marks : List ℕ) → List Rule
rebuild_rules G d bytes marks = array_rules G d bytes marks ++ (tuple_rule G d marks ∷ [])
