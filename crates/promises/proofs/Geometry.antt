-- Two results that a promise of `geometry` allows for the same arguments are one. Assumes nothing.
use mathlib.Core.Path.{sym, ◌∙◌}
use contract.Lifetimes.{Lfts}
use Rattle.promises.proofs.Settled.{Settled}
use Rattle.geometry.proofs.beyond_limits.Reads as beyond-limits
use Rattle.geometry.proofs.r_of.Reads as r-of
use Rattle.geometry.proofs.b_of.Reads as b-of
use Rattle.geometry.proofs.is_whole.Reads as is_whole
use Rattle.geometry.proofs.no_divisor_below.Reads as no-divisor-below
use Rattle.geometry.proofs.sizes_allowed.Reads as sizes-allowed
use Rattle.geometry.proofs.Geometry.r.Reads as its-r
use Rattle.geometry.proofs.Geometry.b.Reads as its-b
use Rattle.geometry.proofs.Geometry.disks.Reads as its-disks
use Rattle.geometry.proofs.Geometry.parts.Reads as its-parts
use Rattle.geometry.proofs.Geometry.units.Reads as its-units
use Rattle.geometry.proofs.Geometry.tuples.Reads as its-tuples
use Rattle.geometry.proofs.Geometry.user_units.Reads as its-user-units
use Rattle.geometry.proofs.Geometry.tuple_sets.Reads as its-tuple-sets
use Rattle.geometry.proofs.Geometry.sets.Reads as its-sets
use Rattle.geometry.proofs.Geometry.bytes.Reads as its-bytes

pub beyond_limits_two_results : (κs : Lfts 0) → Settled (beyond-limits.Post κs)
beyond_limits_two_results κs a x y r s p q = p ∙ sym q

pub r_of_two_results : (κs : Lfts 0) → Settled (r-of.Post κs)
r_of_two_results κs a x y r s p q = p ∙ sym q

pub b_of_two_results : (κs : Lfts 0) → Settled (b-of.Post κs)
b_of_two_results κs a x y r s p q = p ∙ sym q

pub is_whole_two_results : (κs : Lfts 0) → Settled (is_whole.Post κs)
is_whole_two_results κs a x y r s p q = p ∙ sym q

pub no_divisor_below_two_results : (κs : Lfts 0) → Settled (no-divisor-below.Post κs)
no_divisor_below_two_results κs a x y r s p q = p ∙ sym q

pub sizes_allowed_two_results : (κs : Lfts 0) → Settled (sizes-allowed.Post κs)
sizes_allowed_two_results κs a x y r s p q = p ∙ sym q

pub its_r_two_results : (κs : Lfts 0) → Settled (its-r.Post κs)
its_r_two_results κs a x y r s p q = p ∙ sym q

pub its_b_two_results : (κs : Lfts 0) → Settled (its-b.Post κs)
its_b_two_results κs a x y r s p q = p ∙ sym q

pub its_disks_two_results : (κs : Lfts 0) → Settled (its-disks.Post κs)
its_disks_two_results κs a x y r s p q = p ∙ sym q

pub its_parts_two_results : (κs : Lfts 0) → Settled (its-parts.Post κs)
its_parts_two_results κs a x y r s p q = p ∙ sym q

pub its_units_two_results : (κs : Lfts 0) → Settled (its-units.Post κs)
its_units_two_results κs a x y r s p q = p ∙ sym q

pub its_tuples_two_results : (κs : Lfts 0) → Settled (its-tuples.Post κs)
its_tuples_two_results κs a x y r s p q = p ∙ sym q

pub its_user_units_two_results : (κs : Lfts 0) → Settled (its-user-units.Post κs)
its_user_units_two_results κs a x y r s p q = p ∙ sym q

pub its_tuple_sets_two_results : (κs : Lfts 0) → Settled (its-tuple-sets.Post κs)
its_tuple_sets_two_results κs a x y r s p q = p ∙ sym q

pub its_sets_two_results : (κs : Lfts 0) → Settled (its-sets.Post κs)
its_sets_two_results κs a x y r s p q = p ∙ sym q

pub its_bytes_two_results : (κs : Lfts 0) → Settled (its-bytes.Post κs)
its_bytes_two_results κs a x y r s p q = p ∙ sym q
