-- Two results that a promise of `fourfold` allows for the same arguments are one, and so is what it
-- leaves in the lent array. Assumes nothing.
use mathlib.Core.Path.{refl, sym, ◌∙◌}
use contract.Lifetimes.{Lfts}
use Rattle.promises.proofs.Settled.{SettledAt}
use Rattle.fourfold.proofs.write_checked.Reads as write_checked

pub write_checked_two_results : (κs : Lfts 2) → SettledAt (write_checked.Post κs) (λ a. a.1.0.now)
write_checked_two_results κs a x y r s p q = (refl, p ∙ sym q)
