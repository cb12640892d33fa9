-- The statements of specs/Theorems.antt hold. Assumes nothing.
use mathlib.Core.Bool.{true, false}
use Rattle.lostset.specs.Theorems.{
  EveryDiskHasAFlag,
  NoneHasNoDisk,
  AMarkedDiskIsInTheSet,
  AClearedDiskIsNot,
  ClearUndoesMark,
  MarkUndoesClear,
  ANumberTooHighChangesNothing,
  TheSetOfTheMarks,
}
use Rattle.geometry.proofs.Laws.{disks_bound}
use Rattle.lostset.proofs.Sets.{none_has, marked_has, cleared_has, marked_cleared, cleared_marked, set_past, flags_has}

pub every_disk_has_a_flag : EveryDiskHasAFlag
every_disk_has_a_flag = disks_bound

pub none_has_no_disk : NoneHasNoDisk
none_has_no_disk = none_has

pub a_marked_disk_is_in_the_set : AMarkedDiskIsInTheSet
a_marked_disk_is_in_the_set = marked_has

pub a_cleared_disk_is_not : AClearedDiskIsNot
a_cleared_disk_is_not = cleared_has

pub clear_undoes_mark : ClearUndoesMark
clear_undoes_mark = marked_cleared

pub mark_undoes_clear : MarkUndoesClear
mark_undoes_clear = cleared_marked

pub a_number_too_high_changes_nothing : ANumberTooHighChangesNothing
a_number_too_high_changes_nothing flags disk w h = (set_past flags disk w h true, set_past flags disk w h false)

pub the_set_of_the_marks : TheSetOfTheMarks
the_set_of_the_marks = flags_has
