-- "That two results allowed by it are equal is itself proved" (01), over the contract of `show` itself. Assumes nothing.
use Prim.Native.Nat.{ℕ}
use mathlib.Core.Path.{◌≡◌, refl, sym, ap, ◌∙◌}
use mathlib.Core.List.{List, ◌++◌}
use lib.ListN.{length, drop}
use contract.Lifetimes.{Lfts}
use denote.Ref.{Bor, MutBor, at_last}
use Rattle.printing.specs.Shown.{shown}
use Rattle.printing.proofs.show.Reads as show

-- what the contract allows for a line and lent bytes: the count, and the bytes at return
abbrev pub Allowed : Lfts 2 → Bor (List ℕ) → MutBor (List ℕ) → ℕ → MutBor (List ℕ) → Type 0
Allowed κs line text r last = show.Post κs (line, (text, tt)) r (line, (last, tt))

-- two counts for the same line and bytes are the same, and leave the same bytes
pub two_results :
    (κs : Lfts 2) (line : Bor (List ℕ)) (text d e : MutBor (List ℕ)) (r s : ℕ) →
    Allowed κs line text r d → Allowed κs line text s e → (r ≡ s) × (d.now ≡ e.now)
two_results κs line text d e r s p q =
    let same : r ≡ s = p.0 ∙ sym q.0 in
    (same, p.1 ∙ ap (λ (n : ℕ). shown line.now ++ drop n text.now) same ∙ sym q.1)

-- some result is allowed
pub some_result :
    (κs : Lfts 2) (line : Bor (List ℕ)) (text : MutBor (List ℕ)) → (r : ℕ) × (d : MutBor (List ℕ)) × Allowed κs line text r d
some_result κs line text =
    let n = length (shown line.now) in
    (n, at_last text (shown line.now ++ drop n text.now), (refl, refl))
