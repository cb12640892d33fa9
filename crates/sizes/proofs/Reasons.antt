-- Refusals 2 to 6 come exactly as 01 tables them. Assumes nothing.
use Prim.Native.Nat.{ℕ, ◌/◌, ◌%◌, ◌≤◌, ◌<◌}
use mathlib.Core.Path.{◌≡◌}
use mathlib.Core.Bool.{true, not}
use mathlib.Core.List.{List, [], ◌∷◌}
use native.Mathlib.Nat.{mul-mod_left, div-add-mod'}
use native.Mathlib.Omega.{arith}
use borrow.Author.Tests.{not-true, not-false}
use Rattle.counting.proofs.Bools.{bool_not_both, not_is_true}
use Rattle.refusal.specs.Refusal.{rule, accepted, answer, verdict}
use Rattle.refusal.proofs.Answer.{accepted_append, accepted_quiet}
use Rattle.refusal.specs.Due.{row, Exact}
use Rattle.refusal.proofs.Exactness.{Fit, Fits, zero_fit, fits_last, exact}
use Rattle.geometry.specs.declared.Geometry.{Geometry}
use Rattle.geometry.specs.Geometry.{sizes_allowed, tuples_of}
use Rattle.geometry.proofs.Laws.{no_divisors, no_divisor, allowed_parts, parts_allowed, sound_of}
use Rattle.design.specs.Design.{Laid}
use Rattle.checking.specs.Rules.{design_rules}
use Rattle.checking.specs.Reasons.{design_rows}
use Rattle.refusal.proofs.Firsts.{never_true}
use Rattle.checking.proofs.Accepted.{accepted_is_design}
use Rattle.checking.proofs.Reasons.{design_fits}
use Rattle.sizes.specs.Sizes.{sizes_rules}
use Rattle.sizes.specs.Reasons.{Divides, Allowed, sizes_rows}

-- e divides g exactly if nothing is left over
divides_mod : (e g : ℕ) → Divides e g → g % e ≡ 0
divides_mod e g (q, h) = rw (← h) (mul-mod_left q e)

mod_divides : (e g : ℕ) → g % e ≡ 0 → Divides e g
mod_divides e g h = (g / e, omega (arith, div-add-mod' g e))

module _ (k g u : ℕ) where
  allowed_words : sizes_allowed k g u ≡ true → Allowed k g u
  allowed_words h =
      let a = allowed_parts k g u h in
      record {
        prime =
            λ (e : ℕ) (p : 2 ≤ e) (q : e < g) (w : Divides e g). no_divisor g g a.prime e q p (divides_mod e g w);
        g_low = a.g_low;
        g_high = a.g_high;
        k_g = a.k_g;
        u_low = a.u_low;
        u_high = a.u_high;
      }

  words_allowed : Allowed k g u → sizes_allowed k g u ≡ true
  words_allowed a =
      parts_allowed k g u
      (record {
        g_low = a.g_low;
        g_high = a.g_high;
        prime = no_divisors g g (λ (e : ℕ) (p : e < g) (q : 2 ≤ e) (w : g % e ≡ 0). a.prime e q p (mod_divides e g w));
        k_g = a.k_g;
        u_low = a.u_low;
        u_high = a.u_high;
      })

  fit_6 : Fit (rule 6 (not (sizes_allowed k g u)) 0) (row 6 (λ (p : ℕ). (p ≡ 0) × (Allowed k g u → ⊥)))
  fit_6 =
      zero_fit 6 (not (sizes_allowed k g u)) (Allowed k g u → ⊥)
      (λ (e : not (sizes_allowed k g u) ≡ true) (a : Allowed k g u).
      bool_not_both (sizes_allowed k g u) (words_allowed a) (not-true (sizes_allowed k g u) e))
      (λ (n : Allowed k g u → ⊥).
      not_is_true (sizes_allowed k g u)
      (never_true (sizes_allowed k g u) (λ (e : sizes_allowed k g u ≡ true). n (allowed_words e))))

module _ (G : Geometry) (d : List ℕ) where
  pub sizes_fits : Fits (sizes_rules G d) (sizes_rows G d)
  unfolding sizes_rules
  sizes_fits =
      fits_last (design_rules G.v G.k d) (rule 6 (not (sizes_allowed G.k G.g G.u)) 0)
      (design_rows G.v G.k d) (row 6 (λ (p : ℕ). (p ≡ 0) × (Allowed G.k G.g G.u → ⊥)))
      (design_fits G.v G.k d) (λ _. fit_6 G.k G.g G.u)

  -- "refusals come exactly as tabled": 2 to 6
  pub sizes_exact : {A : Type 0} (a : A) → Exact (sizes_rows G d) (answer (sizes_rules G d) a)
  sizes_exact a = exact (sizes_rules G d) (sizes_rows G d) a sizes_fits

  -- what none of 2 to 6 refuses can be laid out
  pub accepted_is_laid : verdict (sizes_rules G d) ≡ accepted tt → Laid G d
  unfolding sizes_rules tuples_of
  accepted_is_laid e =
      let a = accepted_append (design_rules G.v G.k d) (rule 6 (not (sizes_allowed G.k G.g G.u)) 0 ∷ []) e in
      let q = accepted_quiet (rule 6 (not (sizes_allowed G.k G.g G.u)) 0 ∷ []) tt tt a.1 in
      let D = accepted_is_design G.v G.k d a.0 in
      record {
        sound = sound_of G D.0 D.1 (not-false (sizes_allowed G.k G.g G.u) q.0);
        design = D.2;
      }
