-- What is proved of designs: the statements alone. Assumes nothing.
use Rattle.std.specs.Prelude.{ℕ, ◌≤◌, ◌<◌, ◌≡◌, List}
use Rattle.counting.specs.Counting.{count_below}
use Rattle.geometry.specs.Geometry.{r_of}
use Rattle.design.specs.Design.{names, Design}

-- 000, 3.3: "each object appears in r tuples"
abbrev pub EachGroupInRRows : Type 0
EachGroupInRRows =
    (v k b : ℕ) (d : List ℕ) → 2 ≤ k → Design v k b d → (a : ℕ) → a < v → count_below (names k d a) b ≡ r_of v k
