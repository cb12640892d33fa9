-- What is proved of the set of lost disks: the statements alone. Those over the methods' own contracts are in
-- proofs/Contracts.antt. Assumes nothing.
use Rattle.std.specs.Prelude.{ℕ, ◌≤◌, ◌≡◌, Bool, true, false, List, length}
use Rattle.geometry.specs.declared.Geometry.{Geometry}
use Rattle.geometry.specs.Geometry.{Sound, disks_of}
use Rattle.lostset.specs.Lost.{
  disks_most,
  has,
  none_marked,
  marked,
  cleared,
  flags_of,
  has_after_mark,
  has_after_clear,
  has_of_marks,
}

-- every disk of an array has a flag
abbrev pub EveryDiskHasAFlag : Type 0
EveryDiskHasAFlag = (G : Geometry) → Sound G → disks_of G ≤ disks_most

abbrev pub NoneHasNoDisk : Type 0
NoneHasNoDisk = (x : ℕ) → has none_marked x ≡ false

-- "when a disk is added": that disk is in the set, and no other comes or goes
abbrev pub AMarkedDiskIsInTheSet : Type 0
AMarkedDiskIsInTheSet =
    (flags : List Bool) (disk x : ℕ) → length flags ≡ disks_most → has (marked flags disk) x ≡ has_after_mark flags disk x

-- "or taken out"
abbrev pub AClearedDiskIsNot : Type 0
AClearedDiskIsNot = (flags : List Bool) (disk x : ℕ) → has (cleared flags disk) x ≡ has_after_clear flags disk x

abbrev pub ClearUndoesMark : Type 0
ClearUndoesMark = (flags : List Bool) (disk : ℕ) → has flags disk ≡ false → cleared (marked flags disk) disk ≡ flags

abbrev pub MarkUndoesClear : Type 0
MarkUndoesClear = (flags : List Bool) (disk : ℕ) → has flags disk ≡ true → marked (cleared flags disk) disk ≡ flags

abbrev pub ANumberTooHighChangesNothing : Type 0
ANumberTooHighChangesNothing =
    (flags : List Bool) (disk : ℕ) → length flags ≡ disks_most → disks_most ≤ disk →
    (flags ≡ marked flags disk) × (flags ≡ cleared flags disk)

-- "marks are one byte a disk, 0 present and 1 lost"
abbrev pub TheSetOfTheMarks : Type 0
TheSetOfTheMarks = (marks : List ℕ) (x : ℕ) → has (flags_of marks) x ≡ has_of_marks marks x
