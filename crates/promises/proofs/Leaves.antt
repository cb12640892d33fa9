-- Two results that a promise of `leaves` allows for the same arguments are one, and so is what it
-- leaves in the lent bytes. Assumes nothing.
use mathlib.Core.Path.{refl, sym, ◌∙◌}
use contract.Lifetimes.{Lfts}
use Rattle.promises.proofs.Settled.{Settled, SettledAt}
use Rattle.leaves.proofs.xor_into.Reads as xor-into
use Rattle.leaves.proofs.copy_into.Reads as copy-into
use Rattle.leaves.proofs.clear.Reads as clear
use Rattle.leaves.proofs.difference.Reads as difference
use Rattle.leaves.proofs.zero.Reads as zero

pub xor_into_two_results : (κs : Lfts 2) → SettledAt (xor-into.Post κs) (λ a. a.0.now)
xor_into_two_results κs a x y r s p q = (refl, p ∙ sym q)

pub copy_into_two_results : (κs : Lfts 2) → SettledAt (copy-into.Post κs) (λ a. a.0.now)
copy_into_two_results κs a x y r s p q = (refl, p ∙ sym q)

pub clear_two_results : (κs : Lfts 1) → SettledAt (clear.Post κs) (λ a. a.0.now)
clear_two_results κs a x y r s p q = (refl, p ∙ sym q)

pub difference_two_results : (κs : Lfts 3) → SettledAt (difference.Post κs) (λ a. a.0.now)
difference_two_results κs a x y r s p q = (refl, p ∙ sym q)

pub zero_two_results : (κs : Lfts 1) → Settled (zero.Post κs)
zero_two_results κs a x y r s p q = p ∙ sym q
