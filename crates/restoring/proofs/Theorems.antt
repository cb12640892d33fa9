-- The statements of specs/Theorems.antt hold. Assumes nothing.
use Rattle.restoring.specs.Theorems.{ARestoredSetIsZero, NoOtherByteChanges, AZeroSetStays}
use Rattle.restoring.proofs.Restored.{restored_is_zero, restored_out, restored_same}

pub a_restored_set_is_zero : ARestoredSetIsZero
a_restored_set_is_zero = restored_is_zero

pub no_other_byte_changes : NoOtherByteChanges
no_other_byte_changes = restored_out

pub a_zero_set_stays : AZeroSetStays
a_zero_set_stays = restored_same
