-- "That two results allowed by it are equal is itself proved" (01), over the contracts of the calls themselves; and some result is
-- allowed. Assumes nothing.
use Prim.Native.Nat.{ℕ}
use mathlib.Core.Path.{◌≡◌, refl, sym, ap, ◌∙◌}
use mathlib.Core.List.{List}
use contract.Lifetimes.{Lfts}
use denote.Ref.{Bor}
use Rattle.refusal.specs.Refusal.{Outcome, refused, accepted, outcome_of}
use Rattle.refusal.proofs.Answer.{refused_accepted}
use Rattle.refusal.proofs.Same.{same_answer, AllTabled, tabled_append, some_answer}
use Rattle.geometry.specs.declared.Geometry.{Geometry}
use Rattle.sizes.specs.declared.Sizes.{Sizes as Values}
use Rattle.sizes.proofs.check_sizes.Reads as check_sizes
use Rattle.sizes.proofs.sizes_of.Reads as sizes_of
use Rattle.std.specs.Prelude.{Result, Ok, Err}
use Rattle.refusal.specs.declared.Refusal.{Refusal}
use Rattle.refusal.specs.declared.Refusal.TheVariants.{NotAllowed}
use Rattle.checking.specs.Rules.{design_rules}
use Rattle.checking.proofs.TwoResults.{design_tabled}
use Rattle.sizes.specs.Sizes.{sizes_rules}
use Rattle.sizes.specs.Sizes.{sizes_of as derived}

-- each of its rules is a row of the table
pub sizes_tabled : (G : Geometry) (d : List ℕ) → AllTabled (sizes_rules G d)
unfolding sizes_rules
sizes_tabled G d = tabled_append (design_rules G.v G.k d) _ (design_tabled G.v G.k d) ((NotAllowed, refl, refl), tt)

-- what the contracts allow to be answered for a geometry and a lent list
abbrev pub CheckAllowed : Lfts 1 → Geometry → Bor (List ℕ) → Result (Unit {0}) Refusal → Type 0
CheckAllowed κs G design r = check_sizes.Post κs (G, (design, tt)) r (G, (design, tt))

abbrev pub AnswerAllowed : Lfts 1 → Geometry → Bor (List ℕ) → Result Values Refusal → Type 0
AnswerAllowed κs G design r = sizes_of.Post κs (G, (design, tt)) r (G, (design, tt))

module _ (κs : Lfts 1) (G : Geometry) (design : Bor (List ℕ)) where
  pub check_two_results : (r s : Result (Unit {0}) Refusal) → CheckAllowed κs G design r → CheckAllowed κs G design s → r ≡ s
  check_two_results r s p q = same_answer r s (p ∙ sym q)

  pub sizes_two_results : (r s : Result Values Refusal) → AnswerAllowed κs G design r → AnswerAllowed κs G design s → r ≡ s
  sizes_two_results r s p q = same_answer r s (p ∙ sym q)

  pub check_some_result : (r : Result (Unit {0}) Refusal) × CheckAllowed κs G design r
  check_some_result = some_answer (sizes_rules G design.now) tt (sizes_tabled G design.now)

  pub sizes_some_result : (r : Result Values Refusal) × AnswerAllowed κs G design r
  sizes_some_result = some_answer (sizes_rules G design.now) (derived G) (sizes_tabled G design.now)
