-- "That two results allowed by it are equal is itself proved" (01), over the contracts of `render` and `put_number`
-- themselves. Assumes nothing.
use Prim.Native.Nat.{ℕ}
use mathlib.Core.Path.{◌≡◌, refl, sym, ap, ◌∙◌}
use mathlib.Core.List.{List, ◌++◌}
use lib.ListN.{length, drop}
use contract.Lifetimes.{Lfts}
use denote.Ref.{Bor, MutBor, at_last}
use Rattle.decimals.specs.Decimal.{followed, lines_of}
use Rattle.decimals.proofs.render.Reads as render
use Rattle.decimals.proofs.put_number.Reads as put-number

-- what the contract allows for a list and lent bytes: the count, and the bytes at return
abbrev pub Allowed : Lfts 2 → Bor (List ℕ) → MutBor (List ℕ) → ℕ → MutBor (List ℕ) → Type 0
Allowed κs list out r last = render.Post κs (list, (out, tt)) r (list, (last, tt))

-- two counts for the same list and bytes are the same, and leave the same bytes
pub two_results :
    (κs : Lfts 2) (list : Bor (List ℕ)) (out d e : MutBor (List ℕ)) (r s : ℕ) →
    Allowed κs list out r d → Allowed κs list out s e → (r ≡ s) × (d.now ≡ e.now)
two_results κs list out d e r s p q =
    let same : r ≡ s = p.0 ∙ sym q.0 in
    (same, p.1 ∙ ap (λ (n : ℕ). lines_of list.now ++ drop n out.now) same ∙ sym q.1)

-- some result is allowed
pub some_result :
    (κs : Lfts 2) (list : Bor (List ℕ)) (out : MutBor (List ℕ)) → (r : ℕ) × (d : MutBor (List ℕ)) × Allowed κs list out r d
some_result κs list out =
    let n = length (lines_of list.now) in
    (n, at_last out (lines_of list.now ++ drop n out.now), (refl, refl))

-- the same of a number and the byte after it
module _ (κs : Lfts 1) (out : MutBor (List ℕ)) (n by : ℕ) where
  abbrev pub NumberAllowed : ℕ → MutBor (List ℕ) → Type 0
  NumberAllowed r last = put-number.Post κs (out, (n, (by, tt))) r (last, (n, (by, tt)))

  pub two_numbers : (r s : ℕ) (d e : MutBor (List ℕ)) → NumberAllowed r d → NumberAllowed s e → (r ≡ s) × (d.now ≡ e.now)
  two_numbers r s d e p q =
      let same : r ≡ s = p.0 ∙ sym q.0 in
      (same, p.1 ∙ ap (λ (m : ℕ). followed n by ++ drop m out.now) same ∙ sym q.1)

  pub some_number : (r : ℕ) × (d : MutBor (List ℕ)) × NumberAllowed r d
  some_number =
      let m = length (followed n by) in
      (m, at_last out (followed n by ++ drop m out.now), (refl, refl))
