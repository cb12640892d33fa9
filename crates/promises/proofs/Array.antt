-- Two results that a promise of `array` allows for the same arguments are one. Assumes nothing.
use mathlib.Core.Path.{sym, ◌∙◌}
use contract.Lifetimes.{Lfts}
use Rattle.refusal.proofs.Same.{same_answer}
use Rattle.promises.proofs.Settled.{Settled}
use Rattle.array.proofs.start_of.Reads as start_of
use Rattle.array.proofs.array_fits.Reads as array-fits
use Rattle.array.proofs.is_lost.Reads as is_lost
use Rattle.array.proofs.check_range.Reads as check-range

pub start_of_two_results : (κs : Lfts 0) → Settled (start_of.Post κs)
start_of_two_results κs a x y r s p q = p.0 ∙ sym q.0

pub array_fits_two_results : (κs : Lfts 0) → Settled (array-fits.Post κs)
array_fits_two_results κs a x y r s p q = p ∙ sym q

pub is_lost_two_results : (κs : Lfts 1) → Settled (is_lost.Post κs)
is_lost_two_results κs a x y r s p q = p ∙ sym q

pub check_range_two_results : (κs : Lfts 0) → Settled (check-range.Post κs)
check_range_two_results κs a x y r s p q = same_answer r s (p ∙ sym q)
