-- 01, "Calls" (rebuild): the bytes of the units that the passes restore in a tuple. Assumes nothing.
use Rattle.std.specs.Prelude.{ℕ, ◌*◌, ◌<◌, List, [], ◌∷◌, get_or, length}
use Rattle.counting.specs.Lists.{list_of}
use Rattle.geometry.specs.declared.Geometry.{Geometry}
use Rattle.array.specs.Array.{cell_start}
use Rattle.peeling.specs.Peeling.{Side, Step}
use Rattle.reaching.specs.Reach.{tuple_cells_of, cell_numbered}
use Rattle.restoring.specs.Restore.{restored_in}

-- where the units of a set of tuple t begin
unfoldable pub side_starts : Geometry → List ℕ → (t : ℕ) → Side → List ℕ
side_starts G d t s = list_of (λ (q : ℕ). cell_start G d (cell_numbered G t (s.member q))) s.size

-- a step: the set's own unit "becomes the XOR of the rest"
unfoldable pub step_bytes : Geometry → List ℕ → (t : ℕ) → Step → List ℕ → List ℕ
step_bytes G d t s a = restored_in a (side_starts G d t s.side) s.side.own G.u

-- the steps, listed newest first, one after the other: each reads what the earlier ones left
unfoldable pub replayed : Geometry → List ℕ → (t : ℕ) → List Step → List ℕ → List ℕ
replayed G d t [] a = a
replayed G d t (s ∷ ss) a = step_bytes G d t s (replayed G d t ss a)

-- a log as the passes leave it: each entry is of a cell of the tuple
pub record LogIn (G : Geometry) (log : List ℕ) : Type 0 where
  pub low : (i : ℕ) → i < length log → get_or log i 0 < 2 * tuple_cells_of G
