-- 01, "Held difference sets": what the development of one set modulo v goes by. Assumes nothing.
use Rattle.std.specs.Prelude.{ℕ, ◌+◌, ◌/◌, ◌%◌, ◌<◌, List, get_or, length, leb}
use Rattle.counting.specs.Counting.{lowest}
use Rattle.geometry.specs.Geometry.{Limits}
use Rattle.held.specs.Held.{held_group}

-- a set that can be developed modulo v: v and its length are within their limits, it ascends, and its members are below v
pub record Developable (v : ℕ) (s : List ℕ) : Type 0 where
  pub limits : Limits v (length s)
  pub below : (j : ℕ) → j < length s → get_or s j 0 < v
  pub ascending : (j : ℕ) → j + 1 < length s → get_or s j 0 < get_or s (j + 1) 0

-- entry e of the design of the set s: rows of the set's length, one after the other [s is not empty]
abbrev pub developed : (v : ℕ) → List ℕ → (e : ℕ) → ℕ
developed v s e = held_group v s (e / length s) (e % length s)

-- the first member that reaches v where i is added to it, and the set's length where none does
unfoldable pub first_past : (v : ℕ) → List ℕ → (i : ℕ) → ℕ
first_past v s i = lowest (λ (j : ℕ). leb v (get_or s j 0 + i)) (length s)
