-- Two results that a promise of `passing` allows for the same arguments are one, and so is what it
-- leaves in the lent flags and log. Assumes nothing.
use Prim.Native.Nat.{ℕ}
use mathlib.Core.Path.{◌≡◌, sym, ap, ◌∙◌}
use mathlib.Core.Bool.{Bool}
use mathlib.Core.List.{List}
use contract.Lifetimes.{Lfts}
use Rattle.reaching.specs.State.{State}
use Rattle.passing.specs.declared.Reached.{Reached}
use Rattle.promises.proofs.Settled.{SettledAt}
use Rattle.passing.proofs.reach.Reads as reach

same_reached : (r s : Reached) → r.count ≡ s.count → r.complete ≡ s.complete → r ≡ s
same_reached r s p q =
    ap (λ (n : ℕ). record { count = n; complete = r.complete }) p
    ∙ ap (λ (b : Bool). record { count = s.count; complete = b }) q

pub reach_two_results :
    (κs : Lfts 5) →
    SettledAt {L = List Bool × List ℕ} (reach.Post κs) (λ a. (a.1.1.1.0.now, a.1.1.1.1.0.now))
reach_two_results κs a x y r s p q =
    let same = p.0 ∙ sym q.0 in
    (same_reached r s (ap (λ (x : State). x.count) same) (p.1 ∙ sym q.1), ap (λ (x : State). (x.flags, x.log)) same)
