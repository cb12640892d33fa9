-- Of a held design 2 to 5 are never due, nor is 14 of the printer's list: 1, 6 and 9 are left, exactly as 01 tables them.
-- Assumes nothing.
use Prim.Native.Nat.{ℕ, ◌-◌, ◌*◌, ◌≤◌}
use mathlib.Core.Path.{◌≡◌, refl, sym, ap, ◌∙◌}
use mathlib.Core.Bool.{true, false, not}
use mathlib.Core.Logic.{◌⊎◌, inl, inr}
use mathlib.Core.List.{List, [], ◌∷◌, ◌++◌}
use native.Mathlib.Nat.{mul_comm, mul-le-mul, eq_of_mul-eq-mul_right}
use native.Mathlib.Decide.{ℕ_discrete}
use native.Mathlib.Omega.{arith}
use lib.Dec.{eqb, leb, ltb}
use lib.ListN.{length}
use borrow.Author.Tests.{eq-eqb, ne_eqb, eqb-false, leb-true, le-leb, le-ltb}
use Rattle.counting.proofs.Bools.{bool_either, not_is_true, not_is_false}
use Rattle.counting.proofs.Lists.{list_of_length}
use Rattle.refusal.specs.Refusal.{Rule, rule, Outcome, accepted, unless, answer, verdict}
use Rattle.refusal.specs.Due.{Row, row, Exact}
use Rattle.refusal.proofs.Answer.{Quiet, first, next, skip, stop, accepted_quiet}
use Rattle.refusal.proofs.Exactness.{Fit, Fits, zero_fit, fit_words, fit_silent, silent_fit, exact}
use Rattle.geometry.specs.Geometry.{r_of, b_of, parts_of, disks_of, sizes_allowed}
use Rattle.geometry.proofs.Laws.{bk_vr}
use Rattle.checking.specs.Rules.{design_rules}
use Rattle.checking.specs.Reasons.{design_rows}
use Rattle.sizes.specs.Sizes.{sizes_rules}
use Rattle.sizes.specs.Reasons.{Allowed}
use Rattle.sizes.proofs.Rules.{six, fine}
use Rattle.sizes.proofs.Reasons.{sizes_fits, accepted_is_laid}
use Rattle.held.specs.Held.{set_for, held_design, fill_rules}
use Rattle.held.specs.Reasons.{NoSet}
use Rattle.held.proofs.Table.{held_difference, held_found, set_held}
use Rattle.held.proofs.Difference.{held_accepted}
use Rattle.held.proofs.Reasons.{fill_fits}
use Rattle.held.proofs.Answers.{not_held as refused-1}
use Rattle.planning.specs.Plan.{triples_of, plan_rules}
use Rattle.lines.specs.Line.{question}
use Rattle.printing.specs.Shown.{shelf, room, show_rules}
use Rattle.printing.specs.Theorems.{NotAllowed, show_rows}

-- what fits after rules that are quiet
fits_after : (xs ys : List Rule) (ws zs : List Row) → length xs ≡ length ws → Fits (xs ++ ys) (ws ++ zs) → Quiet xs → Fits ys zs
fits_after [] ys [] zs e f q = f
fits_after [] ys (w ∷ ws) zs e f q = absurd (omega arith)
fits_after (x ∷ xs) ys [] zs e f q = absurd (omega arith)
fits_after (x ∷ xs) ys (w ∷ ws) zs e f q =
    fits_after xs ys ws zs (omega arith) (f.1 (fit_silent x w f.0 q.0)) q.1

module _ (v g disk : ℕ) where
  abbrev k : ℕ
  k = length (set_for v)

  abbrev first_rule : Rule
  first_rule = rule 1 (eqb k 0) 0

  abbrev sixth : Rule
  sixth = rule 6 (not (sizes_allowed k g 1)) 0

  abbrev ninth : Rule
  ninth = rule 9 (leb (disks_of (shelf (question v g disk))) disk) 0

  abbrev short : List Rule
  short = first_rule ∷ sixth ∷ ninth ∷ []

  module _ (held : k ≡ 0 → ⊥) where
    -- the list to be filled is as long as the design
    filled : verdict (fill_rules v (length (held_design v))) ≡ accepted tt
    unfolding fill_rules held_design
    filled =
        let e : length (held_design v) ≡ b_of v k * k = list_of_length _ (b_of v k * k) in
        rw (ne_eqb k 0 held, eq-eqb (length (held_design v)) (b_of v k * k) e)

    design_fine : verdict (design_rules v k (held_design v)) ≡ accepted tt
    design_fine = held_accepted v held

    -- 3·r(g-1)k numbers are at most 3600, since r is k
    enough : sizes_allowed k g 1 ≡ true → 3 * triples_of (shelf (question v g disk)) ≤ room
    unfolding triples_of parts_of
    enough a =
        let G = shelf (question v g disk) in
        let S = (accepted_is_laid G (held_design v) (fine G (held_design v) tt design_fine a)).sound in
        let L = S.limits in
        let same : r_of v k ≡ k = eq_of_mul-eq-mul_right v (omega (arith, L.v_low)) (r_of v k) k
        (mul_comm (r_of v k) v ∙ sym (bk_vr G S) ∙ ap (λ (b : ℕ). b * k) (held_difference v held).rows ∙ mul_comm v k) in
        let few : r_of v k ≤ 10 = omega (arith, same, L.k_high) in
        let turns : g - 1 ≤ 12 = omega (arith, S.g_high) in
        omega (arith, mul-le-mul (mul-le-mul few turns) L.k_high)

  abbrev fourteenth : Rule
  fourteenth = rule 14 (ltb room (3 * triples_of (shelf (question v g disk)))) 0

  -- the answer of all the rules is that of 1, 6 and 9
  module _ {A : Type 0} (a : A) where
    abbrev whole : Outcome A
    whole = answer (show_rules (question v g disk)) a

    not_held : k ≡ 0 → whole ≡ answer short a
    unfolding show_rules
    not_held e =
        stop (fill_rules v (length (held_design v))) (plan_rules (shelf (question v g disk)) (held_design v) disk room) a 1 0
        (sym (refused-1 v (held_design v) e).0)
        ∙ sym (first first_rule (sixth ∷ ninth ∷ []) a (eq-eqb k 0 e))

    module _ (held : k ≡ 0 → ⊥) where
      abbrev planned : Outcome A
      planned = answer (plan_rules (shelf (question v g disk)) (held_design v) disk room) a

      to_plan : whole ≡ planned
      unfolding show_rules
      to_plan = skip (fill_rules v (length (held_design v))) _ a (filled held)

      six_due : sizes_allowed k g 1 ≡ false → planned ≡ answer (sixth ∷ ninth ∷ []) a
      unfolding plan_rules
      six_due e =
          let G = shelf (question v g disk) in
          stop (sizes_rules G (held_design v)) (ninth ∷ fourteenth ∷ []) a 6 0 (six G (held_design v) tt (design_fine held) e)
          ∙ sym (first sixth (ninth ∷ []) a (not_is_true (sizes_allowed k g 1) e))

      six_not : sizes_allowed k g 1 ≡ true → planned ≡ answer (sixth ∷ ninth ∷ []) a
      unfolding plan_rules
      six_not e =
          let G = shelf (question v g disk) in
          skip (sizes_rules G (held_design v)) (ninth ∷ fourteenth ∷ []) a (fine G (held_design v) tt (design_fine held) e)
          ∙ ap (λ (o : Outcome A). unless (leb (disks_of G) disk) 9 0 o)
          (next fourteenth [] a (le-ltb room (3 * triples_of G) (enough held e)))
          ∙ sym (next sixth (ninth ∷ []) a (not_is_false (sizes_allowed k g 1) e))

      is_held : whole ≡ answer short a
      is_held = to_plan ∙ go (bool_either (sizes_allowed k g 1)) ∙ sym (next first_rule (sixth ∷ ninth ∷ []) a (ne_eqb k 0 held))
        where
          go : (sizes_allowed k g 1 ≡ true) ⊎ (sizes_allowed k g 1 ≡ false) → planned ≡ answer (sixth ∷ ninth ∷ []) a
          go (inl e) = six_not e
          go (inr e) = six_due e

    shortened : whole ≡ answer short a
    shortened = go (ℕ_discrete k 0)
      where
        go : Dec (k ≡ 0) → whole ≡ answer short a
        go (yes e) = not_held e
        go (no h) = is_held h

  -- 1, 6 and 9 fit their rows
  abbrev row_1 : Row
  row_1 = row 1 (λ (p : ℕ). (p ≡ 0) × NoSet v)

  abbrev AllowedHeld : Type 0
  AllowedHeld = Allowed k g 1

  fit_1 : Fit first_rule row_1
  unfolding fill_rules
  fit_1 = (fill_fits v 0).0

  fit_6_held : (k ≡ 0 → ⊥) → Fit sixth (row 6 (λ (p : ℕ). (p ≡ 0) × (AllowedHeld → ⊥)))
  unfolding sizes_rules design_rules
  fit_6_held held =
      let G = shelf (question v g disk) in
      (fits_after (design_rules v k (held_design v)) (sixth ∷ []) (design_rows v k (held_design v))
      (row 6 (λ (p : ℕ). (p ≡ 0) × (AllowedHeld → ⊥)) ∷ []) refl (sizes_fits G (held_design v))
      (accepted_quiet (design_rules v k (held_design v)) tt tt (design_fine held))).0

  not_allowed : NotAllowed v g → AllowedHeld → ⊥
  not_allowed (s, h, n) a = n (rw (held_found v s h) at a)

  fit_6 : (k ≡ 0 → ⊥) → Fit sixth (row 6 (λ (p : ℕ). (p ≡ 0) × NotAllowed v g))
  fit_6 held =
      fit_words sixth 6 (λ (p : ℕ). (p ≡ 0) × (AllowedHeld → ⊥)) (λ (p : ℕ). (p ≡ 0) × NotAllowed v g)
      (λ p h. (h.0, (set_for v, set_held v held, h.1))) (λ p h. (h.0, not_allowed h.1)) (fit_6_held held)

  fit_9 : Fit ninth (row 9 (λ (p : ℕ). (p ≡ 0) × (v * g ≤ disk)))
  unfolding disks_of
  fit_9 = zero_fit 9 (leb (v * g) disk) (v * g ≤ disk) (leb-true (v * g) disk) (le-leb (v * g) disk)

  fits : Fits short (show_rows v g disk)
  fits = (fit_1, λ s. (fit_6 (eqb-false k 0 (silent_fit first_rule row_1 fit_1 s)), λ _. (fit_9, λ _. tt)))

  -- "refusals come exactly as tabled"
  pub show_exact : {A : Type 0} (a : A) → Exact (show_rows v g disk) (answer (show_rules (question v g disk)) a)
  show_exact a = rw (shortened a) (exact short (show_rows v g disk) a fits)
