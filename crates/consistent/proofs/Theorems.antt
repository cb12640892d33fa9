-- The statements of specs/Theorems.antt hold. Assumes nothing.
use Rattle.consistent.specs.Theorems.{TheSetsHaveTheirNumbers}
use Rattle.consistent.proofs.Numbers.{set_starts_outer, set_starts_inner}
pub use Rattle.consistent.proofs.Parities.{consistent_means_both_parities}
pub use Rattle.consistent.proofs.Formatted.{a_formatted_array_is_consistent}
pub use Rattle.consistent.proofs.Determined.{a_consistent_array_is_determined_by_its_user_bytes}
pub use Rattle.consistent.proofs.Copy.{at_k_2_the_outer_parity_is_a_copy}

pub the_sets_have_their_numbers : TheSetsHaveTheirNumbers
the_sets_have_their_numbers G s d = record { outer = set_starts_outer G s d; inner = set_starts_inner G s d }
