-- 01, "Calls" (rebuild): "The set of lost disks is a value that hands back a new one when a disk is added or taken out."
-- Assumes nothing.
use Rattle.std.specs.Prelude.{ℕ, Bool, true, false, ◌||◌, ◌&&◌, not, List, map, ltb, eqb, get_or, set, replicate}
use Rattle.counting.specs.Lists.{list_of}

-- the most disks that an array can have: 91 groups of 13
abbrev pub disks_most : ℕ
disks_most = 1183

-- disk x is in the set whose flags these are
abbrev pub has : List Bool → ℕ → Bool
has flags x = get_or flags x false

-- the flags of the set of no disk
abbrev pub none_marked : List Bool
none_marked = replicate disks_most false

-- the flags with a disk added, and with one taken out; a number past them changes nothing
abbrev pub marked : List Bool → (disk : ℕ) → List Bool
marked flags disk = set flags disk true

abbrev pub cleared : List Bool → (disk : ℕ) → List Bool
cleared flags disk = set flags disk false

-- "marks are one byte a disk, 0 present and 1 lost": the disks whose mark is 1, and no other. A disk past the end of the marks is
-- not in the set, and a mark past the last flag is not looked at
unfoldable pub flags_of : (marks : List ℕ) → List Bool
flags_of marks = map (λ (mark : ℕ). eqb mark 1) (list_of (λ (x : ℕ). get_or marks x 0) disks_most)

-- what is in the set then: a disk number too high leaves it as it is
unfoldable pub has_after_mark : List Bool → (disk x : ℕ) → Bool
has_after_mark flags disk x = has flags x || (eqb disk x && ltb x disks_most)

unfoldable pub has_after_clear : List Bool → (disk x : ℕ) → Bool
has_after_clear flags disk x = has flags x && not (eqb disk x)

unfoldable pub has_of_marks : (marks : List ℕ) → (x : ℕ) → Bool
has_of_marks marks x = eqb (get_or marks x 0) 1 && ltb x disks_most
