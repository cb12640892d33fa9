-- Two results that a promise of `reaching` allows for the same arguments are one, and so is what it
-- leaves in the lent flags and log. Assumes nothing.
use Prim.Native.Nat.{ℕ}
use mathlib.Core.Path.{sym, ap, ◌∙◌}
use mathlib.Core.Bool.{Bool}
use mathlib.Core.List.{List}
use contract.Lifetimes.{Lfts}
use Rattle.reaching.specs.State.{State}
use Rattle.promises.proofs.Settled.{Settled, SettledAt}
use Rattle.reaching.proofs.cell_numbered.Reads as cell-numbered
use Rattle.reaching.proofs.passes.Reads as passes
use Rattle.reaching.proofs.read_entry.Reads as read-entry

pub cell_numbered_two_results : (κs : Lfts 0) → Settled (cell-numbered.Post κs)
cell_numbered_two_results κs a x y r s p q = p.0 ∙ sym q.0

pub read_entry_two_results : (κs : Lfts 0) → Settled (read-entry.Post κs)
read_entry_two_results κs a x y r s p q = p ∙ sym q

-- with the flags and the log
pub passes_two_results :
    (κs : Lfts 2) → SettledAt {L = List Bool × List ℕ} (passes.Post κs) (λ a. (a.1.1.0.now, a.1.1.1.0.now))
passes_two_results κs a x y r s p q =
    (ap (λ (x : State). x.count) (p ∙ sym q), ap (λ (x : State). (x.flags, x.log)) (p ∙ sym q))
