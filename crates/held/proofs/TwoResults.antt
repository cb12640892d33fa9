-- "That two results allowed by it are equal is itself proved" (01), over the contracts of `fill` and `set_size` themselves. Assumes nothing.
use Prim.Native.Nat.{ℕ}
use mathlib.Core.Path.{◌≡◌, refl, sym, ◌∙◌}
use mathlib.Core.List.{List}
use lib.ListN.{length}
use contract.Lifetimes.{Lfts}
use denote.Ref.{MutBor, at_last}
use Rattle.refusal.specs.Refusal.{Outcome, refused, accepted, verdict, kept, outcome_of}
use Rattle.refusal.proofs.Same.{same_answer, AllTabled, tabled_append, some_answer}
use Rattle.held.specs.Held.{held_design, fill_rules}
use Rattle.held.proofs.fill.Reads as fill
use Rattle.held.proofs.set_size.Reads as set-size
use Rattle.std.specs.Prelude.{Result, Ok, Err}
use Rattle.refusal.specs.declared.Refusal.{Refusal}
use Rattle.refusal.specs.declared.Refusal.TheVariants.{NotHeld, NotWhole}

-- what the contract allows for v and a lent list: the answer, and the list at return
abbrev pub Allowed : Lfts 1 → ℕ → MutBor (List ℕ) → Result (Unit {0}) Refusal → MutBor (List ℕ) → Type 0
Allowed κs v design r last = fill.Post κs (v, (design, tt)) r (v, (last, tt))

-- two answers for the same v and list are the same answer, and leave the same list
pub two_results :
    (κs : Lfts 1) (v : ℕ) (design d e : MutBor (List ℕ)) (r s : Result (Unit {0}) Refusal) →
    Allowed κs v design r d → Allowed κs v design s e → (r ≡ s) × (d.now ≡ e.now)
two_results κs v design d e r s p q = (same_answer r s (p.0 ∙ sym q.0), p.1 ∙ sym q.1)

-- each of its rules is a row of the table
fill_tabled : (v n : ℕ) → AllTabled (fill_rules v n)
unfolding fill_rules
fill_tabled v n = ((NotHeld, refl, refl), ((NotWhole, refl, refl), tt))

-- some answer is allowed
pub some_result :
    (κs : Lfts 1) (v : ℕ) (design : MutBor (List ℕ)) →
    (r : Result (Unit {0}) Refusal) × (d : MutBor (List ℕ)) × Allowed κs v design r d
some_result κs v design =
    let o = verdict (fill_rules v (length design.now)) in
    let w = some_answer (fill_rules v (length design.now)) tt (fill_tabled v (length design.now)) in
    (w.0, at_last design (kept o (held_design v) design.now), (w.1, refl))

pub two_sizes : (κs : Lfts 0) (v r s : ℕ) → set-size.Post κs (v, tt) r (v, tt) → set-size.Post κs (v, tt) s (v, tt) → r ≡ s
two_sizes κs v r s p q = p ∙ sym q
