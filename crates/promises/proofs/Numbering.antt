-- Two results that a promise of `numbering` allows for the same arguments are one. Assumes nothing.
use Prim.Native.Nat.{ℕ}
use mathlib.Core.Path.{sym, ap, ◌∙◌}
use contract.Lifetimes.{Lfts}
use Rattle.promises.proofs.Settled.{Settled}
use Rattle.numbering.proofs.parity_position.Reads as parity-position
use Rattle.numbering.proofs.data_position.Reads as data-position
use Rattle.numbering.proofs.data_number.Reads as data-number
use Rattle.numbering.proofs.digits_of.Reads as digits_of
use Rattle.numbering.proofs.user_number.Reads as user-number

pub parity_position_two_results : (κs : Lfts 0) → Settled (parity-position.Post κs)
parity_position_two_results κs a x y r s p q = p.0 ∙ sym q.0

pub data_position_two_results : (κs : Lfts 0) → Settled (data-position.Post κs)
data_position_two_results κs a x y r s p q = p.0 ∙ sym q.0

pub data_number_two_results : (κs : Lfts 0) → Settled (data-number.Post κs)
data_number_two_results κs a x y r s p q = p.0 ∙ sym q.0

pub digits_of_two_results : (κs : Lfts 0) → Settled (digits_of.Post κs)
digits_of_two_results κs a x y r s p q = p.0 ∙ sym q.0

pub user_number_two_results : (κs : Lfts 0) → Settled (user-number.Post κs)
user_number_two_results κs a x y r s p q = ap (λ (n : ℕ). record { 0 = n }) (p ∙ sym q)
