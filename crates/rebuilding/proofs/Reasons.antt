-- The refusals of the rebuild come exactly as 01 tables them. Assumes nothing.
use Prim.Native.Nat.{ℕ, ◌<◌}
use mathlib.Core.Path.{◌≡◌}
use mathlib.Core.Bool.{Bool, true, false, not}
use mathlib.Core.List.{List}
use borrow.Author.Tests.{not-true, not-false}
use Rattle.counting.specs.Counting.{any_below, lowest}
use Rattle.counting.proofs.Bools.{bool_not_both, not_is_true}
use Rattle.counting.proofs.Laws.{any_true, any_none, any_witness}
use Rattle.refusal.specs.Refusal.{rule, answer}
use Rattle.refusal.specs.Due.{row, Exact}
use Rattle.refusal.proofs.Exactness.{Fit, Fits, fits_last, exact}
use Rattle.refusal.proofs.Firsts.{never_true, first_fit}
use Rattle.geometry.specs.declared.Geometry.{Geometry}
use Rattle.geometry.specs.Geometry.{tuples_of}
use Rattle.array.specs.Rules.{array_rules}
use Rattle.array.specs.Reasons.{array_rows}
use Rattle.array.proofs.Reasons.{array_rows_fit}
use Rattle.peeling.specs.Peeling.{present_after}
use Rattle.peeling.specs.Theorems.{Reached}
use Rattle.reaching.specs.Reach.{tuple_cells_of, sides_of, here_of, steps_of, incomplete}
use Rattle.rebuilding.specs.Rebuild.{rebuild_rules}
use Rattle.rebuilding.specs.Reasons.{Incomplete, LowestIncomplete, rebuild_rows}

module _ (G : Geometry) (d marks : List ℕ) (t : ℕ) where
  abbrev missing : ℕ → Bool
  missing n = not (present_after (here_of G d marks t) (steps_of G d marks t) n)

  -- in a tuple that completes every cell is reached
  pub all_reached :
      incomplete G d marks t ≡ false → (n : ℕ) → n < tuple_cells_of G →
      Reached (here_of G d marks t) (sides_of G t) (tuple_cells_of G) n
  unfolding incomplete steps_of
  all_reached e n h = not-false _ (any_none missing (tuple_cells_of G) e n h)

  pub incomplete_words : incomplete G d marks t ≡ true → Incomplete G d marks t
  unfolding incomplete steps_of
  incomplete_words e =
      let w = any_witness missing (tuple_cells_of G) e in (
        w.0,
        w.1,
        λ (r : Reached (here_of G d marks t) (sides_of G t) (tuple_cells_of G) w.0).
            bool_not_both _ r (not-true _ w.2),
      )

  pub words_incomplete : Incomplete G d marks t → incomplete G d marks t ≡ true
  unfolding incomplete steps_of
  words_incomplete (n, h, out) = any_true missing (tuple_cells_of G) n h (not_is_true _ (never_true _ out))

module _ (G : Geometry) (d : List ℕ) (bytes : ℕ) (marks : List ℕ) where
  fit_13 :
      Fit (rule 13 (any_below (incomplete G d marks) (tuples_of G)) (lowest (incomplete G d marks) (tuples_of G)))
      (row 13 (LowestIncomplete G d marks))
  fit_13 =
      first_fit 13 (incomplete G d marks) (tuples_of G) (Incomplete G d marks) (incomplete_words G d marks)
      (words_incomplete G d marks)

  pub rebuild_rows_fit : Fits (rebuild_rules G d bytes marks) (rebuild_rows G d bytes marks)
  unfolding rebuild_rules
  rebuild_rows_fit =
      fits_last (array_rules G d bytes marks) _ (array_rows G d bytes marks) _ (array_rows_fit G d bytes marks) (λ _. fit_13)

  -- the rebuild: 2 to 8 and 13
  pub rebuild_exact : {A : Type 0} (a : A) → Exact (rebuild_rows G d bytes marks) (answer (rebuild_rules G d bytes marks) a)
  rebuild_exact a = exact (rebuild_rules G d bytes marks) (rebuild_rows G d bytes marks) a rebuild_rows_fit
