-- Which losses every tuple survives, each under its sentence of 00 or 01: the statements alone. Assumes nothing.
use Rattle.std.specs.Prelude.{ℕ, ◌+◌, ◌*◌, ◌≤◌, ◌<◌, ◌≡◌, false, List, eqb, get_or}
use Rattle.counting.specs.Counting.{count_below}
use Rattle.geometry.specs.declared.Geometry.{Geometry}
use Rattle.geometry.specs.Geometry.{tuples_of, disks_of}
use Rattle.design.specs.Design.{group_at, Laid}
use Rattle.reaching.specs.Reach.{incomplete}

-- how many of group a's disks are marked
abbrev pub lost_in_group : Geometry → (marks : List ℕ) → (a : ℕ) → ℕ
lost_in_group G marks a = count_below (λ (c : ℕ). eqb (get_or marks (a * G.g + c) 0) 1) G.g

-- at most one group of the tuple has two or more lost disks
abbrev pub OneHeavyGroup : Geometry → List ℕ → (marks : List ℕ) → (t : ℕ) → Type 0
OneHeavyGroup G d marks t =
    (l m : ℕ) → l < G.k → m < G.k → 2 ≤ lost_in_group G marks (group_at G.k d t l) →
    2 ≤ lost_in_group G marks (group_at G.k d t m) → l ≡ m

-- such a tuple completes
abbrev pub OneHeavyGroupCompletes : Type 0
OneHeavyGroupCompletes =
    (G : Geometry) (d marks : List ℕ) → Laid G d → (t : ℕ) → t < tuples_of G → OneHeavyGroup G d marks t →
    incomplete G d marks t ≡ false

-- how many disks are marked
abbrev pub lost_disks : Geometry → (marks : List ℕ) → ℕ
lost_disks G marks = count_below (λ (x : ℕ). eqb (get_or marks x 0) 1) (disks_of G)

-- "at most three disks lost at a time": every tuple completes
abbrev pub ThreeLostDisksAreRebuilt : Type 0
ThreeLostDisksAreRebuilt =
    (G : Geometry) (d marks : List ℕ) → Laid G d → lost_disks G marks ≤ 3 → (t : ℕ) → t < tuples_of G →
    incomplete G d marks t ≡ false

-- "Nine disks, group 0 and the first of each other group, are rebuilt": a whole group, and at most one disk of every other
abbrev pub AGroupAndOneDiskOfEachOtherAreRebuilt : Type 0
AGroupAndOneDiskOfEachOtherAreRebuilt =
    (G : Geometry) (d marks : List ℕ) → Laid G d → (heavy : ℕ) →
    ((a : ℕ) → a < G.v → (a ≡ heavy → ⊥) → lost_in_group G marks a ≤ 1) → (t : ℕ) → t < tuples_of G →
    incomplete G d marks t ≡ false
