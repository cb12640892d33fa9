-- The statements of specs/Theorems.antt hold. Assumes nothing.
pub use Rattle.peeling.proofs.Closed.{the_passes_reach_the_least_closed_set}
pub use Rattle.peeling.proofs.Passes.{more_passes_restore_nothing, the_last_pass_restores_nothing}
pub use Rattle.peeling.proofs.Counts.{each_cell_is_restored_once}
pub use Rattle.peeling.proofs.Bytes.{consistent_bytes_come_back, lost_bytes_do_not_count}
