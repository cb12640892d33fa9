-- Two results that a promise of `sources` allows for the same arguments are one, and so is what it
-- leaves in the lent list. Assumes nothing.
use Prim.Native.Nat.{ℕ}
use mathlib.Core.Path.{refl, sym, ap₂, ◌∙◌}
use mathlib.Core.List.{List}
use contract.Lifetimes.{Lfts}
use Rattle.promises.proofs.Settled.{SettledAt}
use Rattle.sources.proofs.plan_unit.Reads as plan-unit

-- the list, and the next place in it
pub plan_unit_two_results :
    (κs : Lfts 3)
    → SettledAt {L = List ℕ × ℕ} (plan-unit.Post κs) (λ a. (a.1.1.1.1.0.now.list.now, a.1.1.1.1.0.now.next))
plan_unit_two_results κs a x y r s p q = (
  refl,
  ap₂ (λ (l : List ℕ) (n : ℕ). (l, n)) (p.is ∙ sym q.is) (p.next ∙ sym q.next),
)
