-- A design: 000, section 3.3 with lambda = 1, as 01, "Design and geometry", has it. "A design has v groups and b rows
-- ("tuples") of k group numbers. Every pair of groups stands together in exactly one row .. Rows ascend strictly." "The
-- design is a lent list of 16-bit numbers, row after row, of length exactly b·k." Assumes nothing.
use Rattle.std.specs.Prelude.{ℕ, ◌+◌, ◌*◌, ◌<◌, ◌≡◌, Bool, List, get_or, length, eqb}
use Rattle.counting.specs.Counting.{any_below}
use Rattle.geometry.specs.declared.Geometry.{Geometry}
use Rattle.geometry.specs.Geometry.{Sound, tuples_of}

-- the group at position l of row t, and 0 past the end of the list (3 refuses such a list)
unfoldable pub group_at : ℕ → List ℕ → ℕ → ℕ → ℕ
group_at k d t l = get_or d (t * k + l) 0

-- row t names group a
unfoldable pub names : ℕ → List ℕ → ℕ → ℕ → Bool
names k d a t = any_below (λ (l : ℕ). eqb (group_at k d t l) a) k

-- the same in words: some position of row t holds group a
abbrev pub InRow : ℕ → List ℕ → ℕ → ℕ → Type 0
InRow k d a t = (l : ℕ) × (l < k) × (group_at k d t l ≡ a)

-- groups a and c stand together in exactly one of the b rows
pub record OneRow (k b : ℕ) (d : List ℕ) (a c : ℕ) : Type 0 where
  pub tuple : ℕ
  pub below : tuple < b
  pub left : InRow k d a tuple
  pub right : InRow k d c tuple
  pub only : (s : ℕ) → s < b → InRow k d a s → InRow k d c s → s ≡ tuple

-- what makes the list a design of v groups in b rows of k
pub record Design (v k b : ℕ) (d : List ℕ) : Type 0 where
  pub size : length d ≡ b * k
  pub groups : (t l : ℕ) → t < b → l < k → group_at k d t l < v
  pub ascending : (t l : ℕ) → t < b → l + 1 < k → group_at k d t l < group_at k d t (l + 1)
  pub pairs : (a c : ℕ) → a < c → c < v → OneRow k b d a c

-- what the layout is laid on, and what is known where none of 2 to 6 refuses; of g it asks less (`Sound`)
pub record Laid (G : Geometry) (d : List ℕ) : Type 0 where
  pub sound : Sound G
  pub design : Design G.v G.k (tuples_of G) d
