-- Two results that a promise of `sets` allows for the same arguments are one, and so is what it
-- leaves in the lent list. Assumes nothing.
use mathlib.Core.Path.{refl, sym, ◌∙◌}
use contract.Lifetimes.{Lfts}
use Rattle.promises.proofs.Settled.{Settled, SettledAt}
use Rattle.sets.proofs.region_starts.Reads as region-starts
use Rattle.sets.proofs.disk_bytes.Reads as disk-bytes
use Rattle.sets.proofs.label_starts.Reads as label-starts
use Rattle.sets.proofs.diagonal_starts.Reads as diagonal-starts

pub region_starts_two_results : (κs : Lfts 3) → SettledAt (region-starts.Post κs) (λ a. a.1.1.0.now)
region_starts_two_results κs a x y r s p q = (refl, p ∙ sym q)

pub disk_bytes_two_results : (κs : Lfts 0) → Settled (disk-bytes.Post κs)
disk_bytes_two_results κs a x y r s p q = p ∙ sym q

pub label_starts_two_results : (κs : Lfts 2) → SettledAt (label-starts.Post κs) (λ a. a.1.1.1.1.1.0.now)
label_starts_two_results κs a x y r s p q = (refl, p ∙ sym q)

pub diagonal_starts_two_results : (κs : Lfts 1) → SettledAt (diagonal-starts.Post κs) (λ a. a.1.1.1.1.0.now)
diagonal_starts_two_results κs a x y r s p q = (refl, p ∙ sym q)
