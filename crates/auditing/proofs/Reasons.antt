-- The refusals of the audit come exactly as 01 tables them. Assumes nothing.
use Prim.Native.Nat.{ℕ, ◌<◌}
use mathlib.Core.Path.{◌≡◌}
use mathlib.Core.Logic.{◌⊎◌, inl, inr}
use mathlib.Core.Bool.{true, not}
use mathlib.Core.List.{List}
use native.Mathlib.Decide.{dec_lt}
use native.Mathlib.Omega.{arith}
use borrow.Author.Tests.{not-true}
use Rattle.counting.proofs.Bools.{bool_not_both, not_is_true}
use Rattle.refusal.specs.Refusal.{rule, answer}
use Rattle.refusal.specs.Due.{row, Exact}
use Rattle.refusal.proofs.Exactness.{Fit, Fits, zero_fit, fits_append, exact}
use Rattle.refusal.proofs.Firsts.{never_true}
use Rattle.geometry.specs.declared.Geometry.{Geometry}
use Rattle.geometry.specs.Geometry.{bytes_of}
use Rattle.sizes.specs.Sizes.{sizes_rules}
use Rattle.sizes.specs.Reasons.{sizes_rows}
use Rattle.sizes.proofs.Reasons.{sizes_fits}
use Rattle.array.specs.Rules.{array_fits}
use Rattle.array.proofs.Fits.{fits_above, fits_words, words_fits}
use Rattle.auditing.specs.Auditing.{audit_rules}
use Rattle.auditing.specs.Reasons.{audit_rows}

module _ (G : Geometry) (bytes : ℕ) where
  -- "array .. of another length, or array above the limit"
  abbrev Other : Type 0
  Other = (bytes ≡ bytes_of G → ⊥) ⊎ (1073741824 < bytes_of G)

  other_words : not (array_fits G bytes) ≡ true → Other
  other_words e = go (dec_lt 1073741824 (bytes_of G))
    where
      go : Dec (1073741824 < bytes_of G) → Other
      go (yes l) = inr l
      go (no l) =
          inl (λ (q : bytes ≡ bytes_of G). bool_not_both (array_fits G bytes) (words_fits G bytes q (omega arith)) (not-true _ e))

  words_other : Other → not (array_fits G bytes) ≡ true
  words_other (inl n) =
      not_is_true _ (never_true (array_fits G bytes) (λ (e : array_fits G bytes ≡ true). n (fits_words G bytes e).0))
  words_other (inr l) = not_is_true _ (fits_above G bytes l)

  fit_7 : Fit (rule 7 (not (array_fits G bytes)) 0) (row 7 (λ (p : ℕ). (p ≡ 0) × Other))
  fit_7 = zero_fit 7 _ Other other_words words_other

module _ (G : Geometry) (d : List ℕ) (bytes : ℕ) where
  pub audit_rows_fit : Fits (audit_rules G d bytes) (audit_rows G d bytes)
  unfolding audit_rules
  audit_rows_fit =
      fits_append (sizes_rules G d) _ (sizes_rows G d) _ (sizes_fits G d) (λ _. (fit_7 G bytes, λ _. tt))

  -- "refusals come exactly as tabled": 2 to 7
  pub audit_exact : {A : Type 0} (a : A) → Exact (audit_rows G d bytes) (answer (audit_rules G d bytes) a)
  audit_exact a = exact (audit_rules G d bytes) (audit_rows G d bytes) a audit_rows_fit
