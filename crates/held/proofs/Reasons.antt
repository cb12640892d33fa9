-- Refusals 1 and 3 of the call that fills a list come exactly as 01 tables them. Assumes nothing.
use Prim.Native.Nat.{ℕ, ◌*◌}
use mathlib.Core.Path.{◌≡◌, ap, ◌∙◌}
use mathlib.Core.Logic.{◌⊎◌, inl, inr}
use mathlib.Core.Bool.{true, false, not}
use native.Mathlib.Omega.{arith}
use lib.ListN.{length}
use lib.Dec.{eqb}
use borrow.Author.Tests.{eqb-true, eqb-false, ne_eqb, not-true}
use Rattle.counting.proofs.Bools.{bool_either, not_is_true}
use Rattle.refusal.specs.Refusal.{rule, answer}
use Rattle.refusal.specs.Due.{row, Exact}
use Rattle.refusal.proofs.Exactness.{Fit, Fits, zero_fit, silent_fit, exact}
use Rattle.geometry.specs.Geometry.{b_of}
use Rattle.checking.proofs.Words.{whole_parts, b_is}
use Rattle.held.specs.Held.{table, set_for, fill_rules}
use Rattle.held.specs.Reasons.{HeldSet, NoSet, NotFilled, fill_rows}
use Rattle.held.proofs.Table.{held_found, set_held, held_set}

module _ (v n : ℕ) where
  none_words : eqb (length (set_for v)) 0 ≡ true → NoSet v
  none_words e s h =
      let z = eqb-true (length (set_for v)) 0 e in
      let f = ap length (held_found v s h) in
      let m = (held_set v s h).developable.limits.k_low in
      omega arith

  words_none : NoSet v → eqb (length (set_for v)) 0 ≡ true
  words_none h = go (bool_either (eqb (length (set_for v)) 0))
    where
      go : (eqb (length (set_for v)) 0 ≡ true) ⊎ (eqb (length (set_for v)) 0 ≡ false) → eqb (length (set_for v)) 0 ≡ true
      go (inl e) = e
      go (inr e) = absurd (h (set_for v) (set_held v (eqb-false (length (set_for v)) 0 e)))

  abbrev entries : ℕ
  entries = b_of v (length (set_for v)) * length (set_for v)

  filled_words : HeldSet table v (set_for v) → not (eqb n entries) ≡ true → NotFilled v n
  filled_words h e = (
    set_for v,
    b_of v (length (set_for v)),
    h,
    (whole_parts v (length (set_for v)) (held_set v (set_for v) h).whole_sizes).1,
    eqb-false n entries (not-true (eqb n entries) e),
  )

  words_filled : NotFilled v n → not (eqb n entries) ≡ true
  words_filled (s, b, h, e, w) =
      not_is_true (eqb n entries)
      (ne_eqb n entries (λ (f : n ≡ entries). w (f ∙ rw (held_found v s h, b_is v (length s) (held_set v s h).developable.limits b e))))

  fit_1 : Fit (rule 1 (eqb (length (set_for v)) 0) 0) (row 1 (λ (p : ℕ). (p ≡ 0) × NoSet v))
  fit_1 = zero_fit 1 (eqb (length (set_for v)) 0) (NoSet v) none_words words_none

  pub fill_fits : Fits (fill_rules v n) (fill_rows v n)
  unfolding fill_rules
  fill_fits = (
    fit_1,
    λ s.
        let e = silent_fit (rule 1 (eqb (length (set_for v)) 0) 0) (row 1 (λ (p : ℕ). (p ≡ 0) × NoSet v)) fit_1 s in
        let h = set_held v (eqb-false (length (set_for v)) 0 e) in
        (zero_fit 3 (not (eqb n entries)) (NotFilled v n) (filled_words h) words_filled, λ _. tt),
  )

  -- "refusals come exactly as tabled": 1 and 3 of the call that fills a list
  pub fill_exact : {A : Type 0} (a : A) → Exact (fill_rows v n) (answer (fill_rules v n) a)
  fill_exact a = exact (fill_rules v n) (fill_rows v n) a fill_fits
