-- The statements of specs/Theorems.antt hold. Assumes nothing.
pub use Rattle.onedisk.proofs.Column.{the_passes_of_one_lost_disk}
pub use Rattle.onedisk.proofs.Planned.{each_rebuilt_byte_is_the_XOR_of_its_planned_sources}
pub use Rattle.onedisk.proofs.Shares.{each_disk_gives_its_share}
pub use Rattle.onedisk.proofs.Changes.{a_changed_byte_changes_what_the_plan_says}
pub use Rattle.onedisk.proofs.Accepted.{one_lost_disk_is_rebuilt, the_lost_disk_is_planned, demand_3}
