-- The answers of the audit, case by case. Assumes nothing.
use Prim.Native.Nat.{ℕ}
use mathlib.Core.Path.{◌≡◌, ◌∙◌}
use mathlib.Core.Bool.{true, false}
use mathlib.Core.List.{List, []}
use Rattle.counting.proofs.Bools.{not_is_true, not_is_false}
use Rattle.refusal.specs.Refusal.{refused, accepted, answer, verdict}
use Rattle.refusal.proofs.Answer.{first, next, skip, stop}
use Rattle.geometry.specs.declared.Geometry.{Geometry}
use Rattle.sizes.specs.Sizes.{sizes_rules}
use Rattle.array.specs.Rules.{array_fits}
use Rattle.auditing.specs.Auditing.{audit_rules}

module _ {A : Type 0} (G : Geometry) (d : List ℕ) (bytes : ℕ) (a : A) where
  -- refused by 2 to 6
  pub sizes_refuse : (n p : ℕ) → verdict (sizes_rules G d) ≡ refused n p → answer (audit_rules G d bytes) a ≡ refused n p
  unfolding audit_rules
  sizes_refuse n p e = stop (sizes_rules G d) _ a n p e

  -- by 7
  pub array_refuses :
      verdict (sizes_rules G d) ≡ accepted tt → array_fits G bytes ≡ false → answer (audit_rules G d bytes) a ≡ refused 7 0
  unfolding audit_rules
  array_refuses e h = skip (sizes_rules G d) _ a e ∙ first _ [] a (not_is_true (array_fits G bytes) h)

  -- not refused
  pub accepts :
      verdict (sizes_rules G d) ≡ accepted tt → array_fits G bytes ≡ true → answer (audit_rules G d bytes) a ≡ accepted a
  unfolding audit_rules
  accepts e h = skip (sizes_rules G d) _ a e ∙ next _ [] a (not_is_false (array_fits G bytes) h)
