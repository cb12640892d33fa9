-- Two results that a promise of `refusal` allows for the same arguments are one. Assumes nothing.
use mathlib.Core.Path.{sym, ◌∙◌}
use contract.Lifetimes.{Lfts}
use Rattle.promises.proofs.Settled.{Settled}
use Rattle.refusal.proofs.Refusal.number.Reads as number
use Rattle.refusal.proofs.Refusal.place.Reads as place

pub number_two_results : (κs : Lfts 0) → Settled (number.Post κs)
number_two_results κs a x y r s p q = p ∙ sym q

pub place_two_results : (κs : Lfts 0) → Settled (place.Post κs)
place_two_results κs a x y r s p q = p ∙ sym q
