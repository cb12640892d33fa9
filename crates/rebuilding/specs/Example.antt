-- 01's examples 6, 7 and 8, and the bytes of a small array: what the rebuild's definitions give. Assumes nothing.
use Rattle.std.specs.Prelude.{ℕ, ◌≡◌, List, [], ◌∷◌}
use Rattle.refusal.specs.Refusal.{Outcome, refused, accepted, answer}
use Rattle.geometry.specs.declared.Geometry.{Geometry}
use Rattle.cells.specs.Figure.{shelf}
use Rattle.reaching.specs.Example.{F, marked}
use Rattle.rebuilding.specs.Rebuild.{rebuilt_of, restored_of, tuple_rule}

-- what is answered for design F, g = 3, with these marks of disks 0 to 4 and the others present
abbrev pub answered : List ℕ → Outcome ℕ
answered first = answer (tuple_rule shelf F (marked first) ∷ []) (restored_of shelf F (marked first))

-- three groups of two disks, and a tuple for each pair of groups; units of one byte
abbrev pub small : Geometry
small = record { v = 3; k = 2; g = 2; u = 1 }

abbrev pub pairs : List ℕ
pairs = 0 ∷ 1 ∷ 0 ∷ 2 ∷ 1 ∷ 2 ∷ []

pub record Rebuilds : Type 0 where
  -- "No disk lost: accepted, 0 restored."
  pub none : answered (0 ∷ 0 ∷ 0 ∷ 0 ∷ 0 ∷ []) ≡ accepted 0
  -- "Disks 0,1,2,3: accepted, 36 restored."
  pub four : answered (1 ∷ 1 ∷ 1 ∷ 1 ∷ 0 ∷ []) ≡ accepted 36
  -- "Disks 0,1,3,4: refusal 13, place 1."
  pub stuck : answered (1 ∷ 1 ∷ 0 ∷ 1 ∷ 1 ∷ []) ≡ refused 13 1
  -- disks 0, 1 and 2, four bytes each, come back in every tuple
  pub bytes :
      rebuilt_of small pairs (1 ∷ 1 ∷ 1 ∷ 0 ∷ 0 ∷ 0 ∷ [])
      (0 ∷ 0 ∷ 0 ∷ 0 ∷ 9 ∷ 9 ∷ 9 ∷ 9 ∷ 7 ∷ 7 ∷ 7 ∷ 7 ∷ 2 ∷ 1 ∷ 6 ∷ 5 ∷ 3 ∷ 4 ∷ 5 ∷ 6 ∷ 4 ∷ 3 ∷ 6 ∷ 5 ∷ [])
      ≡ 1 ∷ 2 ∷ 3 ∷ 4 ∷ 2 ∷ 1 ∷ 4 ∷ 3 ∷ 1 ∷ 2 ∷ 5 ∷ 6 ∷ 2 ∷ 1 ∷ 6 ∷ 5 ∷ 3 ∷ 4 ∷ 5 ∷ 6 ∷ 4 ∷ 3 ∷ 6 ∷ 5 ∷ []
