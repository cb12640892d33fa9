-- Where every missing cell's first set lacks only it from the start, the passes are one sweep: each missing cell is restored
-- once, upwards, from its first set, whose rest holds what it held at the start. Assumes nothing.
use Prim.Native.Nat.{ℕ, zero, suc, ◌≤◌, ◌<◌}
use mathlib.Core.Path.{◌≡◌, refl, sym, ap, ◌∙◌}
use mathlib.Core.Bool.{Bool, true, false}
use mathlib.Core.Logic.{◌⊎◌, inl, inr}
use mathlib.Core.List.{List, [], ◌∷◌}
use native.Mathlib.Decide.{ℕ_discrete}
use native.Mathlib.Omega.{arith}
use lib.Dec.{eqb}
use lib.ListN.{length}
use borrow.Author.Tests.{ne_eqb}
use Rattle.counting.proofs.Bools.{bool_either, bool_not_both, none_or}
use Rattle.peeling.specs.Peeling.{Side, Step, restored, present_after, or_else, tried, visit, sweep, peeled, rest_sum, byte_after}
use Rattle.peeling.specs.Theorems.{Rest}
use Rattle.peeling.proofs.Sides.{rest_lacks_only}
use Rattle.peeling.proofs.Cases.{tried_here, visit_present, visit_missing}
use Rattle.peeling.proofs.Histories.{present_from_start, present_restored, restored_here, restored_before}
use Rattle.peeling.proofs.Passes.{sweep_still, passes_go_on, passes_stop}
use Rattle.peeling.proofs.Bytes.{rest_same, byte_here, byte_elsewhere, byte_not_restored}

-- the missing cells below n, newest first, each with its first set
unfoldable pub missing_steps : (start : ℕ → Bool) → (first : ℕ → Side) → ℕ → List Step
missing_steps start first zero = []
missing_steps start first (suc n) =
    or_else (start n) (missing_steps start first n) (record { cell = n; side = first n } ∷ missing_steps start first n)

module _ (start : ℕ → Bool) (first : ℕ → Side) where
  abbrev steps : ℕ → List Step
  steps n = missing_steps start first n

  abbrev restoring : ℕ → Step
  restoring n = record { cell = n; side = first n }

  pub steps_present : (n : ℕ) → start n ≡ true → steps (suc n) ≡ steps n
  unfolding missing_steps
  steps_present n h = ap (λ (b : Bool). or_else b (steps n) (restoring n ∷ steps n)) h

  pub steps_missing : (n : ℕ) → start n ≡ false → steps (suc n) ≡ (restoring n ∷ steps n)
  unfolding missing_steps
  steps_missing n h = ap (λ (b : Bool). or_else b (steps n) (restoring n ∷ steps n)) h

  -- what is true of the steps, by whether cell n is missing
  by_cell : (P : List Step → Type 0) (n : ℕ) → (start n ≡ true → P (steps n)) → (start n ≡ false → P (restoring n ∷ steps n))
      → P (steps (suc n))
  unfolding missing_steps
  by_cell P n here out = go (start n) refl
    where
      go : (b : Bool) → start n ≡ b → P (or_else b (steps n) (restoring n ∷ steps n))
      go true e = here e
      go false e = out e

  not_yet : (n x : ℕ) → n ≤ x → restored (steps n) x ≡ false
  unfolding restored missing_steps
  not_yet zero x l = refl
  not_yet (suc n) x l =
      by_cell (λ (ss : List Step). restored ss x ≡ false) n (λ e. not_yet n x (omega arith))
      (λ e. none_or (eqb n x) (restored (steps n) x) (ne_eqb n x (λ w. omega arith)) (not_yet n x (omega arith)))

  -- a cell present from the start is not restored
  not_restored : (n x : ℕ) → start x ≡ true → restored (steps n) x ≡ false
  unfolding restored missing_steps
  not_restored zero x h = refl
  not_restored (suc n) x h =
      by_cell (λ (ss : List Step). restored ss x ≡ false) n (λ e. not_restored n x h)
      (λ e.
      none_or (eqb n x) (restored (steps n) x)
      (ne_eqb n x (λ (w : n ≡ x). bool_not_both (start x) h (ap start (sym w) ∙ e))) (not_restored n x h))

  -- a missing one is
  all_restored : (n x : ℕ) → x < n → start x ≡ false → restored (steps n) x ≡ true
  all_restored zero x l h = absurd (omega arith)
  all_restored (suc n) x l h = go (ℕ_discrete n x) (λ (w : x < n). all_restored n x w h)
    where
      go : Dec (n ≡ x) → (x < n → restored (steps n) x ≡ true) → restored (steps (suc n)) x ≡ true
      go (yes w) ih =
          ap (λ (ss : List Step). restored ss x) (steps_missing n (ap start w ∙ h))
          ∙ restored_here (restoring n) (steps n) x w
      go (no w) ih =
          by_cell (λ (ss : List Step). restored ss x ≡ true) n (λ e. ih (omega arith))
          (λ e. restored_before (restoring n) (steps n) x (ih (omega arith)))

  module _ (size : ℕ) (lacks : (x : ℕ) → x < size → start x ≡ false → Rest (λ (y : ℕ). start y ≡ true) (first x)) where
    -- a restored cell has the XOR of the rest of its first set, as that was at the start
    pub byte_first :
        (b : ℕ → ℕ) (n : ℕ) → n ≤ size → (x : ℕ) → x < n → start x ≡ false →
        byte_after b (steps n) x ≡ rest_sum b (first x) (first x).size
    byte_first b zero k x l h = absurd (omega arith)
    byte_first b (suc n) k x l h = go (ℕ_discrete n x) (λ (w : x < n). byte_first b n (omega arith) x w h)
      where
        Is : List Step → Type 0
        Is ss = byte_after b ss x ≡ rest_sum b (first x) (first x).size

        go : Dec (n ≡ x) → (x < n → Is (steps n)) → Is (steps (suc n))
        go (yes w) ih =
            ap (λ (ss : List Step). byte_after b ss x) (steps_missing n (ap start w ∙ h))
            ∙ byte_here b (restoring n) (steps n) x w
            ∙ rest_same (byte_after b (steps n)) b (first n) (first n).size
            (λ q r ne.
            byte_not_restored b (steps n) ((first n).member q)
            (not_restored n ((first n).member q) (lacks n (omega arith) (ap start w ∙ h) q r ne)))
            ∙ ap (λ (y : ℕ). rest_sum b (first y) (first y).size) w
        go (no w) ih =
            by_cell Is n (λ e. ih (omega arith)) (λ e. byte_elsewhere b (restoring n) (steps n) x w ∙ ih (omega arith))

    module _
        (sides : ℕ → List Side)
        (is : (x : ℕ) → x < size → start x ≡ false → (vs : List Side) × (sides x ≡ (first x ∷ vs))) where
      visited : (n : ℕ) → n < size → (start n ≡ true) ⊎ (start n ≡ false) → visit start sides n (steps n) ≡ steps (suc n)
      unfolding present_after
      visited n l (inl e) =
          visit_present start sides n (steps n) (present_from_start start (steps n) n e) ∙ sym (steps_present n e)
      visited n l (inr e) =
          visit_missing start sides n (steps n) (none_or (start n) (restored (steps n) n) e (not_yet n n (omega arith)))
          ∙ ap (λ (vs : List Side). tried (present_after start (steps n)) n vs (steps n)) (is n l e).1
          ∙ tried_here (present_after start (steps n)) n (steps n) (first n) (is n l e).0
          (rest_lacks_only (present_after start (steps n)) (first n)
          (λ q r ne. present_from_start start (steps n) ((first n).member q) (lacks n l e q r ne)))
          ∙ sym (steps_missing n e)

      one_sweep : (n : ℕ) → n ≤ size → sweep start sides n [] ≡ steps n
      unfolding sweep missing_steps
      one_sweep zero l = refl
      one_sweep (suc n) l =
          ap (visit start sides n) (one_sweep n (omega arith)) ∙ visited n (omega arith) (bool_either (start n))

      all_present : (x : ℕ) → x < size → (start x ≡ true) ⊎ (start x ≡ false) → present_after start (steps size) x ≡ true
      all_present x l (inl e) = present_from_start start (steps size) x e
      all_present x l (inr e) = present_restored start (steps size) x (all_restored size x l e)

      -- the second pass restores nothing
      swept_again : (n : ℕ) → n ≤ size → sweep start sides n (steps size) ≡ steps size
      unfolding sweep
      swept_again zero l = refl
      swept_again (suc n) l =
          ap (visit start sides n) (swept_again n (omega arith))
          ∙ visit_present start sides n (steps size) (all_present n (omega arith) (bool_either (start n)))

      pub at_once : peeled start sides size ≡ steps size
      unfolding peeled
      at_once = go (ℕ_discrete (length (sweep start sides size [])) 0)
        where
          once : sweep start sides size [] ≡ steps size
          once = one_sweep size (omega arith)

          again : sweep start sides size (sweep start sides size []) ≡ sweep start sides size []
          again = ap (sweep start sides size) once ∙ swept_again size (omega arith) ∙ sym once

          go : Dec (length (sweep start sides size []) ≡ 0) → peeled start sides size ≡ steps size
          go (yes e) = passes_stop start sides size [] e ∙ sym (sweep_still start sides size [] e) ∙ once
          go (no e) =
              passes_go_on start sides size [] (tt {0}) e
              ∙ passes_stop start sides size (sweep start sides size []) (ap length again)
              ∙ once
