-- 01, "Calls" (rebuild): the passes over the cells of one tuple, numbered from 0. Which cells they reach is kept apart from the
-- bytes that these get. Nothing here knows of labels, diagonals or disks. Assumes nothing.
use Rattle.std.specs.Prelude.{ℕ, zero, suc, Bool, true, false, not, ◌&&◌, ◌||◌, List, [], ◌∷◌, eqb, length}
use Rattle.std.specs.Int.Bits.{bit_xor}
use Rattle.counting.specs.Counting.{any_below}

-- a set as one of its cells sees it: how many units it has, which cell each of them is, and which of them the cell itself is
pub record Side : Type 0 where
  pub size : ℕ
  pub member : ℕ → ℕ
  pub own : ℕ

-- "A missing unit whose .. set lacks only it": every other unit of the set is present
unfoldable pub lacks_only : (present : ℕ → Bool) → Side → Bool
lacks_only present s = not (any_below (λ (q : ℕ). not (eqb q s.own) && not (present (s.member q))) s.size)

-- a unit restored, and the set whose rest it was restored from
pub record Step : Type 0 where
  pub cell : ℕ
  pub side : Side

-- the cell is one of those restored; the steps are listed newest first
unfoldable pub restored : List Step → ℕ → Bool
restored [] x = false
restored (s ∷ ss) x = eqb s.cell x || restored ss x

-- the cell is present: from the start, or restored
unfoldable pub present_after : (start : ℕ → Bool) → List Step → ℕ → Bool
present_after start ss x = start x || restored ss x

-- one step more where the set lacks only the cell, else what is tried next
abbrev pub or_else : Bool → (one next : List Step) → List Step
or_else true one next = one
or_else false one next = next

-- the first of the cell's sets, in the order of trial, that lacks only it restores it; where none does, nothing changes
unfoldable pub tried : (present : ℕ → Bool) → ℕ → List Side → List Step → List Step
tried present x [] ss = ss
tried present x (v ∷ vs) ss = or_else (lacks_only present v) (record { cell = x; side = v } ∷ ss) (tried present x vs ss)

-- a visit to cell x, whose sets are `sides x`: a present cell is left; "Later visits see it as present"
unfoldable pub visit : (start : ℕ → Bool) → (sides : ℕ → List Side) → ℕ → List Step → List Step
visit start sides x ss = or_else (present_after start ss x) ss (tried (present_after start ss) x (sides x) ss)

-- "a pass visits .. each upwards": the first n cells of a pass
unfoldable pub sweep : (start : ℕ → Bool) → (sides : ℕ → List Side) → ℕ → List Step → List Step
sweep start sides zero ss = ss
sweep start sides (suc n) ss = visit start sides n (sweep start sides n ss)

-- "Passes repeat until one restores nothing": at most `fuel` passes over n cells
unfoldable pub passes : (start : ℕ → Bool) → (sides : ℕ → List Side) → (n fuel : ℕ) → List Step → List Step
passes start sides n zero ss = ss
passes start sides n (suc fuel) ss =
    or_else (eqb (length (sweep start sides n ss)) (length ss)) ss (passes start sides n fuel (sweep start sides n ss))

-- what the passes restore. n passes are enough for n cells (Theorems)
unfoldable pub peeled : (start : ℕ → Bool) → (sides : ℕ → List Side) → (n : ℕ) → List Step
peeled start sides n = passes start sides n n []

-- ---- bytes: one number a cell
-- "the XOR of the rest": of the set's first n units, all but the cell's own
unfoldable pub rest_sum : (bytes : ℕ → ℕ) → Side → (n : ℕ) → ℕ
rest_sum bytes s zero = 0
rest_sum bytes s (suc n) = bit_xor (rest_sum bytes s n) (unless_own (eqb n s.own) (bytes (s.member n)))
  where
    unless_own : Bool → ℕ → ℕ
    unless_own true y = 0
    unless_own false y = y

-- a cell's byte after the steps: each restored cell has the XOR of its set's rest as it was then
unfoldable pub byte_after : (bytes : ℕ → ℕ) → List Step → ℕ → ℕ
byte_after bytes [] x = bytes x
byte_after bytes (s ∷ ss) x = if_here (eqb s.cell x) (rest_sum (byte_after bytes ss) s.side s.side.size) (byte_after bytes ss x)
  where
    if_here : Bool → ℕ → ℕ → ℕ
    if_here true y z = y
    if_here false y z = z
