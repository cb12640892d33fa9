-- Two results that a promise of `finding` allows for the same arguments are one. Assumes nothing.
use mathlib.Core.Path.{sym, ◌∙◌}
use contract.Lifetimes.{Lfts}
use Rattle.promises.proofs.Settled.{Settled}
use Rattle.finding.proofs.Found.after.Reads as after
use Rattle.finding.proofs.Found.with_set.Reads as with-set

pub with_set_two_results : (κs : Lfts 0) → Settled (with-set.Post κs)
with_set_two_results κs a x y r s p q = p ∙ sym q

pub after_two_results : (κs : Lfts 0) → Settled (after.Post κs)
after_two_results κs a x y r s p q = p ∙ sym q
