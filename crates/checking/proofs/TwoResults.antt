-- "That two results allowed by it are equal is itself proved" (01), over the contract of `check` itself and of what the crate's
-- own parts lend each other. Assumes nothing.
use Prim.Native.Nat.{ℕ, ◌*◌}
use mathlib.Core.Path.{◌≡◌, refl, sym, ◌∙◌}
use mathlib.Core.List.{List}
use contract.Lifetimes.{Lfts}
use denote.Ref.{Bor}
use Rattle.refusal.specs.declared.Refusal.TheVariants.{BeyondLimits, NotWhole, BadRow, BadPair}
use Rattle.refusal.proofs.Same.{same_answer, AllTabled, some_answer}
use Rattle.counting.specs.Counting.{lowest}
use Rattle.geometry.specs.Geometry.{b_of}
use Rattle.checking.specs.Rules.{row_bad, pair_bad, design_rules}
use Rattle.std.specs.Prelude.{Option}
use Rattle.checking.proofs.check.Reads as check
use Rattle.checking.proofs.rows.first_bad_row.Reads as first-bad-row
use Rattle.checking.proofs.pairs.first_bad_pair.Reads as first-bad-pair
use Rattle.std.specs.Prelude.{Result, Ok, Err}
use Rattle.refusal.specs.declared.Refusal.{Refusal}

-- what the contract allows to be answered for v, k and a list, which is lent to be read only
abbrev pub Allowed : Lfts 1 → ℕ → ℕ → Bor (List ℕ) → Result (Unit {0}) Refusal → Type 0
Allowed κs v k design r = check.Post κs (v, (k, (design, tt))) r (v, (k, (design, tt)))

-- two answers for the same v, k and list are the same answer
pub two_results :
    (κs : Lfts 1) (v k : ℕ) (design : Bor (List ℕ)) (r s : Result (Unit {0}) Refusal) → Allowed κs v k design r → Allowed κs v k design s
    → r ≡ s
two_results κs v k design r s p q = same_answer r s (p ∙ sym q)

-- each of its rules is a row of the table
pub design_tabled : (v k : ℕ) (d : List ℕ) → AllTabled (design_rules v k d)
unfolding design_rules
design_tabled v k d =
    let row = BadRow (lowest (row_bad v k d) (b_of v k)) in
    let pair = BadPair (lowest (pair_bad v k d) (v * v)) in
    ((BeyondLimits, refl, refl), ((NotWhole, refl, refl), ((row, refl, refl), ((pair, refl, refl), tt))))

-- some answer is allowed, whatever is asked
pub some_result : (κs : Lfts 1) (v k : ℕ) (design : Bor (List ℕ)) → (r : Result (Unit {0}) Refusal) × Allowed κs v k design r
some_result κs v k design = some_answer (design_rules v k design.now) tt (design_tabled v k design.now)

-- the same of the first bad row and pair
module _ (κs : Lfts 1) (design : Bor (List ℕ)) (v k : ℕ) where
  abbrev pub RowAllowed : Option ℕ → Type 0
  RowAllowed r = first-bad-row.Post κs (design, (v, (k, tt))) r (design, (v, (k, tt)))

  abbrev pub PairAllowed : Option ℕ → Type 0
  PairAllowed r = first-bad-pair.Post κs (design, (v, (k, tt))) r (design, (v, (k, tt)))

  pub row_two_results : (r s : Option ℕ) → RowAllowed r → RowAllowed s → r ≡ s
  row_two_results r s p q = p ∙ sym q

  pub pair_two_results : (r s : Option ℕ) → PairAllowed r → PairAllowed s → r ≡ s
  pair_two_results r s p q = p ∙ sym q
