-- 01's examples 7 and 8: what the passes do with design F, g = 3, when disks 0,1,2,3 or 0,1,3,4 are lost; and the order of trial
-- when disk 0 is. Assumes nothing.
use Rattle.std.specs.Prelude.{ℕ, ◌≡◌, List, [], ◌∷◌, ◌++◌, length, replicate}
use Rattle.counting.specs.Counting.{lowest}
use Rattle.counting.specs.Lists.{list_of}
use Rattle.cells.specs.Figure.{shelf}
use Rattle.reaching.specs.Reach.{cell_numbered, outer_side, inner_side, steps_of, incomplete}

-- "Design F is document 000's equation 1"
abbrev pub F : List ℕ
F = 0 ∷ 2 ∷ 6 ∷ 0 ∷ 1 ∷ 3 ∷ 1 ∷ 2 ∷ 4 ∷ 2 ∷ 3 ∷ 5 ∷ 3 ∷ 4 ∷ 6 ∷ 0 ∷ 4 ∷ 5 ∷ 1 ∷ 5 ∷ 6 ∷ []

-- the first disks' marks; the other disks are present
abbrev pub marked : List ℕ → List ℕ
marked first = first ++ replicate 16 0

pub record LostDisks : Type 0 where
  -- disks 0,1,2,3: 36 units restored, tuple by tuple
  pub restored : list_of (λ (t : ℕ). length (steps_of shelf F (marked (1 ∷ 1 ∷ 1 ∷ 1 ∷ 0 ∷ [])) t)) 7 ≡ 9 ∷ 12 ∷ 3 ∷ 0 ∷ 0 ∷ 9 ∷ 3 ∷ []
  pub complete : lowest (incomplete shelf F (marked (1 ∷ 1 ∷ 1 ∷ 1 ∷ 0 ∷ []))) 7 ≡ 7
  -- disks 0,1,3,4: "refusal 13, place 1"
  pub stuck : lowest (incomplete shelf F (marked (1 ∷ 1 ∷ 0 ∷ 1 ∷ 1 ∷ []))) 7 ≡ 1
  -- disk 0, tuple 0, newest first: both of a unit's sets lack only it, and "A missing unit whose outer set lacks only it becomes
  -- the XOR of the rest"; a unit of row g-1 has an inner set alone
  pub trial :
      steps_of shelf F (marked (1 ∷ 0 ∷ 0 ∷ 0 ∷ 0 ∷ [])) 0
      ≡ record { cell = 6; side = inner_side shelf (cell_numbered shelf 0 6) }
      ∷ record { cell = 3; side = outer_side shelf (cell_numbered shelf 0 3) }
      ∷ record { cell = 0; side = outer_side shelf (cell_numbered shelf 0 0) }
      ∷ []
