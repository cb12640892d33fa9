-- The statements of specs/Theorems.antt hold. Assumes nothing.
pub use Rattle.rebuilding.proofs.Present.{units_of_present_disks_stay}
pub use Rattle.rebuilding.proofs.Count.{the_count_is_of_the_units_on_lost_disks}
pub use Rattle.rebuilding.proofs.ComeBack.{consistent_arrays_come_back, what_lost_disks_hold_does_not_count}
