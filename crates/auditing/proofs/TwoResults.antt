-- "That two results allowed by it are equal is itself proved", "refusals come exactly as tabled" (01), over the contract of
-- `audit` itself; some result is allowed; and what an accepted audit says of the array. Assumes nothing.
use Prim.Native.Nat.{ℕ}
use mathlib.Core.Path.{◌≡◌, refl, sym, ap, ◌∙◌}
use mathlib.Core.Logic.{◌↔◌}
use mathlib.Core.List.{List}
use lib.ListN.{length}
use contract.Lifetimes.{Lfts}
use denote.Ref.{Bor}
use Rattle.refusal.specs.Refusal.{Outcome, refused, accepted, outcome_of}
use Rattle.refusal.specs.Due.{Exact}
use Rattle.refusal.proofs.Answer.{refused_accepted, accepted_value}
use Rattle.refusal.proofs.Same.{same_answer, AllTabled, tabled_append, some_answer}
use Rattle.geometry.specs.declared.Geometry.{Geometry}
use Rattle.consistent.specs.Consistent.{Consistent}
use Rattle.finding.specs.declared.Found.{Found}
use Rattle.finding.specs.Bad.{audit_of}
use Rattle.auditing.specs.Auditing.{audit_rules}
use Rattle.auditing.specs.Reasons.{audit_rows}
use Rattle.auditing.proofs.Reasons.{audit_exact}
use Rattle.finding.proofs.Theorems.{none_bad_exactly_if_consistent}
use Rattle.auditing.proofs.audit.Reads as audit
use Rattle.std.specs.Prelude.{Result, Ok, Err}
use Rattle.refusal.specs.declared.Refusal.{Refusal}
use Rattle.refusal.specs.declared.Refusal.TheVariants.{WrongLength}
use Rattle.sizes.specs.Sizes.{sizes_rules}
use Rattle.sizes.proofs.TwoResults.{sizes_tabled}

-- each of its rules is a row of the table
audit_tabled : (G : Geometry) (d : List ℕ) (bytes : ℕ) → AllTabled (audit_rules G d bytes)
unfolding audit_rules
audit_tabled G d bytes = tabled_append (sizes_rules G d) _ (sizes_tabled G d) ((WrongLength, refl, refl), tt)

module _ (κs : Lfts 2) (G : Geometry) (design array : Bor (List ℕ)) where
  -- what the contract allows to be answered
  abbrev pub Allowed : Result Found Refusal → Type 0
  Allowed r = audit.Post κs (G, (design, (array, tt))) r (G, (design, (array, tt)))

  pub two_results : (r s : Result Found Refusal) → Allowed r → Allowed s → r ≡ s
  two_results r s p q = same_answer r s (p ∙ sym q)

  pub some_result : (r : Result Found Refusal) × Allowed r
  some_result =
      some_answer (audit_rules G design.now (length array.now)) (audit_of G design.now array.now)
      (audit_tabled G design.now (length array.now))

  pub audit_is_exact : (r : Result Found Refusal) → Allowed r → Exact (audit_rows G design.now (length array.now)) (outcome_of r)
  audit_is_exact r p = rw p (audit_exact G design.now (length array.now) (audit_of G design.now array.now))

  -- an accepted audit hands back the count of the bad sets and the lowest of them
  pub audit_accepted : (x : Found) → Allowed (Ok x) → x ≡ audit_of G design.now array.now
  audit_accepted x p =
      accepted_value (audit_rules G design.now (length array.now)) (audit_of G design.now array.now) x (sym p)

  -- and its count is 0 exactly if the array is consistent
  pub accepted_none_bad : (x : Found) → Allowed (Ok x) → (x.bad ≡ 0) ↔ Consistent G design.now array.now
  accepted_none_bad x p =
      rw (audit_accepted x p) (none_bad_exactly_if_consistent G design.now array.now)
