-- 01's example of the plan, `7 3 9`, and the order of trial when disk 0 of design F is lost: what each of the 21 disks gives, and
-- the steps in a tuple that names the disk's group and in one that does not. Assumes nothing.
use Rattle.std.specs.Prelude.{ℕ, ◌≡◌, List, [], ◌∷◌, map}
use Rattle.counting.specs.Lists.{list_of}
use Rattle.cells.specs.Figure.{shelf}
use Rattle.peeling.specs.Peeling.{Step}
use Rattle.reaching.specs.Example.{F}
use Rattle.sources.specs.Plan.{plan_of}
use Rattle.sources.specs.Example.{held_seven}
use Rattle.onedisk.specs.OneDisk.{disk_steps}
use Rattle.onedisk.specs.Sources.{triples_in, count_in, on_disk, in_part}

-- how many units each disk gives for disk 9, which is the first of group 3
abbrev pub given : List ℕ
given = list_of (λ (x : ℕ). count_in (on_disk x) (triples_in (plan_of shelf held_seven 9))) 21

pub record OneDisk : Type 0 where
  -- two disks of each other group give one unit and the third none; disks 10 and 11 give three
  pub gives :
      given
      ≡ 1 ∷ 1 ∷ 0 ∷ 1 ∷ 0 ∷ 1 ∷ 1 ∷ 0 ∷ 1 ∷ 0 ∷ 3 ∷ 3 ∷ 1 ∷ 1 ∷ 0 ∷ 1 ∷ 1 ∷ 0 ∷ 1 ∷ 0 ∷ 1 ∷ []
  -- one in each of its parts
  pub parts : list_of (λ (p : ℕ). count_in (in_part shelf 10 p) (triples_in (plan_of shelf held_seven 9))) 3 ≡ 1 ∷ 1 ∷ 1 ∷ []
  -- the cells restored, newest first, from sets of 3 units of which they are the 0-th, and in row 2 the last
  pub cells : map (λ (s : Step). s.cell) (disk_steps shelf F 0 0) ≡ 6 ∷ 3 ∷ 0 ∷ []
  pub owns : map (λ (s : Step). s.side.own) (disk_steps shelf F 0 0) ≡ 2 ∷ 0 ∷ 0 ∷ []
  pub other : disk_steps shelf F 0 2 ≡ []
