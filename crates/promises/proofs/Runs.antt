-- Two results that a promise of `runs` allows for the same arguments are one, and so is what it
-- leaves in the lent bytes. Assumes nothing.
use mathlib.Core.Path.{refl, sym, ◌∙◌}
use contract.Lifetimes.{Lfts}
use Rattle.promises.proofs.Settled.{Settled, SettledAt}
use Rattle.runs.proofs.add_run.Reads as add-run
use Rattle.runs.proofs.gather.Reads as gather
use Rattle.runs.proofs.zero_sum.Reads as zero-sum

pub add_run_two_results : (κs : Lfts 2) → SettledAt (add-run.Post κs) (λ a. a.0.now)
add_run_two_results κs a x y r s p q = (refl, p ∙ sym q)

pub gather_two_results : (κs : Lfts 3) → SettledAt (gather.Post κs) (λ a. a.0.now)
gather_two_results κs a x y r s p q = (refl, p ∙ sym q)

pub zero_sum_two_results : (κs : Lfts 2) → Settled (zero-sum.Post κs)
zero_sum_two_results κs a x y r s p q = p ∙ sym q
