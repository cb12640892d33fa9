-- The answers of the format, case by case. Assumes nothing.
use Prim.Native.Nat.{ℕ}
use mathlib.Core.Path.{◌≡◌, sym, ap, ◌∙◌}
use mathlib.Core.List.{List}
use lib.ListN.{length, replicate}
use Rattle.refusal.specs.Refusal.{Outcome, refused, accepted, verdict, kept}
use Rattle.geometry.specs.declared.Geometry.{Geometry}
use Rattle.array.specs.Array.{formatted_array, formatted_marks}
use Rattle.array.specs.Rules.{array_rules}
use Rattle.array.proofs.Fits.{ready}
use Rattle.array.proofs.Kept.{kept_old, kept_new}

module _ (G : Geometry) (d a marks : List ℕ) where
  abbrev answered : Outcome (Unit {0})
  answered = verdict (array_rules G d (length a) marks)

  -- what the contract says of an answer o, and of the array and the marks at return
  abbrev pub Formatted : Outcome (Unit {0}) → List ℕ → List ℕ → Type 0
  Formatted o b m =
      (o ≡ answered) × (b ≡ kept answered (formatted_array G) a) × (m ≡ kept answered (formatted_marks G) marks)

  pub format_refused : (n p : ℕ) → answered ≡ refused n p → Formatted (refused n p) a marks
  format_refused n p e = (sym e, kept_old answered n p (formatted_array G) a e, kept_old answered n p (formatted_marks G) marks e)

  pub format_goes :
      (b m : List ℕ) → answered ≡ accepted tt → b ≡ replicate (length a) 0 → m ≡ replicate (length marks) 0
      → Formatted (accepted tt) b m
  unfolding formatted_array formatted_marks
  format_goes b m e p q =
      let h = ready G d (length a) marks e in (
        sym e,
        p ∙ ap (λ (n : ℕ). replicate n 0) h.whole ∙ kept_new answered tt (formatted_array G) a e,
        q ∙ ap (λ (n : ℕ). replicate n 0) h.long ∙ kept_new answered tt (formatted_marks G) marks e,
      )
