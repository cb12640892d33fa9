-- When the passes end: one that adds no step changes nothing, and n passes are enough for n cells. Assumes nothing.
use Prim.Native.Nat.{ℕ, zero, suc, ◌+◌, ◌≤◌, ◌<◌}
use mathlib.Core.Path.{◌≡◌, refl, sym, ap, ◌∙◌}
use mathlib.Core.Bool.{Bool, true, false}
use mathlib.Core.Logic.{◌⊎◌, inl, inr}
use mathlib.Core.List.{List, [], ◌∷◌}
use native.Mathlib.Decide.{ℕ_discrete}
use native.Mathlib.Nat.{suc-add, zero-add}
use native.Mathlib.Numerals.{add-one}
use native.Mathlib.Omega.{arith}
use lib.Dec.{eqb}
use lib.ListN.{length}
use borrow.Author.Tests.{eq-eqb, ne_eqb, eqb-true, eqb-false}
use Rattle.peeling.specs.Peeling.{Side, Step, or_else, visit, sweep, passes, peeled}
use Rattle.peeling.specs.Theorems.{MorePassesRestoreNothing, TheLastPassRestoresNothing}
use Rattle.peeling.proofs.Histories.{Fits, Valid, Idle, Adds, visit_does, visit_keeps, sweep_keeps, sweep_valid}
use Rattle.peeling.proofs.Counts.{length_low}

module _ (start : ℕ → Bool) (sides : ℕ → List Side) (n : ℕ) where
  -- the steps are as they were, or more
  abbrev pub Grows : List Step → List Step → Type 0
  Grows ss ts = (ts ≡ ss) ⊎ (length ss < length ts)

  grows_more : (ss : List Step) (s : Step) (ts : List Step) → Fits start sides n s ts → Grows ss ts → Grows ss (s ∷ ts)
  grows_more ss s ts f (inl e) = inr (rw e (omega arith))
  grows_more ss s ts f (inr l) = inr (omega arith)

  pub visit_grows : (x : ℕ) (ss : List Step) → x < n → Grows ss (visit start sides x ss)
  visit_grows x ss l = visit_keeps start sides n (Grows ss) (grows_more ss) x ss l (inl refl)

  pub sweep_grows : (m : ℕ) (ss : List Step) → m ≤ n → Grows ss (sweep start sides m ss)
  sweep_grows m ss l = sweep_keeps start sides n (Grows ss) (grows_more ss) m ss l (inl refl)

  grows_low : (ss ts : List Step) → Grows ss ts → length ss ≤ length ts
  grows_low ss ts (inl e) = rw e (omega arith)
  grows_low ss ts (inr l) = omega arith

  grows_not : (ss ts : List Step) → Grows ss ts → length ts ≤ length ss → ts ≡ ss
  grows_not ss ts (inl e) l = e
  grows_not ss ts (inr h) l = absurd (omega arith)

  -- a pass that adds no step changes nothing, nor does any of its visits
  pub sweep_still : (ss : List Step) → length (sweep start sides n ss) ≡ length ss → sweep start sides n ss ≡ ss
  sweep_still ss e = grows_not ss (sweep start sides n ss) (sweep_grows n ss (omega arith)) (omega arith)

  still_before : (m : ℕ) (ss : List Step) → suc m ≤ n → sweep start sides (suc m) ss ≡ ss → sweep start sides m ss ≡ ss
  unfolding sweep
  still_before m ss l e =
      let low : length (sweep start sides m ss) ≤ length (visit start sides m (sweep start sides m ss)) =
      grows_low (sweep start sides m ss) (visit start sides m (sweep start sides m ss))
      (visit_grows m (sweep start sides m ss) (omega arith))
      in
      let same : length (visit start sides m (sweep start sides m ss)) ≡ length ss = ap length e in
      grows_not ss (sweep start sides m ss) (sweep_grows m ss (omega arith)) (omega arith)

  visits_still :
      (m : ℕ) (ss : List Step) → m ≤ n → sweep start sides m ss ≡ ss → (x : ℕ) → x < m → visit start sides x ss ≡ ss
  unfolding sweep
  visits_still zero ss l e x q = absurd (omega arith)
  visits_still (suc m) ss l e x q =
      go (ℕ_discrete x m) (λ (i : x < m). visits_still m ss (omega arith) (still_before m ss l e) x i)
    where
      go : Dec (x ≡ m) → (x < m → visit start sides x ss ≡ ss) → visit start sides x ss ≡ ss
      go (yes i) before = rw i (ap (visit start sides m) (sym (still_before m ss l e)) ∙ e)
      go (no i) before = before (omega arith)

  -- why nothing more is restored
  pub still_idle : (ss : List Step) → sweep start sides n ss ≡ ss → (x : ℕ) → x < n → Idle start sides n x ss
  still_idle ss e x l = go (visit_does start sides n x ss l)
    where
      go : Adds start sides n x ss ⊎ (Idle start sides n x ss × (visit start sides x ss ≡ ss)) → Idle start sides n x ss
      go (inl r) =
          let longer : suc (length ss) ≡ length ss =
          sym (ap length r.is) ∙ ap length (visits_still n ss (omega arith) e x l)
          in
          absurd (omega arith)
      go (inr (i, _)) = i

  -- with as many cells restored as there are, no pass restores another
  full_still : (ss : List Step) → Valid start sides n ss → n ≤ length ss → sweep start sides n ss ≡ ss
  full_still ss v l =
      let most : length (sweep start sides n ss) ≤ n =
      length_low start sides n (sweep start sides n ss) (sweep_valid start sides n n ss (omega arith) v)
      in
      grows_not ss (sweep start sides n ss) (sweep_grows n ss (omega arith)) (omega arith)

  -- a pass that adds a step leaves one pass less to do
  fewer : (ss : List Step) (fuel : ℕ) → n ≤ length ss + suc fuel → (length (sweep start sides n ss) ≡ length ss → ⊥) →
      n ≤ length (sweep start sides n ss) + fuel
  fewer ss fuel l ne =
      let low : length ss ≤ length (sweep start sides n ss) =
      grows_low ss (sweep start sides n ss) (sweep_grows n ss (omega arith))
      in
      omega arith

  pub passes_end :
      (fuel : ℕ) (ss : List Step) → Valid start sides n ss → n ≤ length ss + fuel →
      sweep start sides n (passes start sides n fuel ss) ≡ passes start sides n fuel ss
  unfolding passes
  passes_end zero ss v l = full_still ss v (omega arith)
  passes_end (suc fuel) ss v l =
      go (eqb (length (sweep start sides n ss)) (length ss)) refl
      (λ h. passes_end fuel (sweep start sides n ss) (sweep_valid start sides n n ss (omega arith) v) h)
    where
      After : Bool → List Step
      After b = or_else b ss (passes start sides n fuel (sweep start sides n ss))

      go :
          (b : Bool) → eqb (length (sweep start sides n ss)) (length ss) ≡ b →
          (n ≤ length (sweep start sides n ss) + fuel → sweep start sides n (After false) ≡ After false) →
          sweep start sides n (After b) ≡ After b
      go true e ih = sweep_still ss (eqb-true (length (sweep start sides n ss)) (length ss) e)
      go false e ih = ih (fewer ss fuel l (eqb-false (length (sweep start sides n ss)) (length ss) e))

  -- passes over steps that no pass changes
  passes_still : (m : ℕ) (ss : List Step) → sweep start sides n ss ≡ ss → passes start sides n m ss ≡ ss
  unfolding passes
  passes_still zero ss e = refl
  passes_still (suc m) ss e =
      ap (λ (b : Bool). or_else b ss (passes start sides n m (sweep start sides n ss)))
      (eq-eqb (length (sweep start sides n ss)) (length ss) (ap length e))

  pub passes_more :
      (fuel m : ℕ) (ss : List Step) → Valid start sides n ss → n ≤ length ss + fuel →
      passes start sides n (fuel + m) ss ≡ passes start sides n fuel ss
  unfolding passes
  passes_more zero m ss v l = rw (zero-add m) (passes_still m ss (full_still ss v (omega arith)))
  passes_more (suc fuel) m ss v l =
      rw (suc-add fuel m)
      (go (eqb (length (sweep start sides n ss)) (length ss)) refl
      (λ h. passes_more fuel m (sweep start sides n ss) (sweep_valid start sides n n ss (omega arith) v) h))
    where
      After : ℕ → Bool → List Step
      After f b = or_else b ss (passes start sides n f (sweep start sides n ss))

      go :
          (b : Bool) → eqb (length (sweep start sides n ss)) (length ss) ≡ b →
          (n ≤ length (sweep start sides n ss) + fuel → After (fuel + m) false ≡ After fuel false) →
          After (fuel + m) b ≡ After fuel b
      go true e ih = refl
      go false e ih = ih (fewer ss fuel l (eqb-false (length (sweep start sides n ss)) (length ss) e))

  -- a loop of passes without fuel: one more where the last added a step, else the end
  pub passes_go_on :
      (ss : List Step) → Valid start sides n ss → (length (sweep start sides n ss) ≡ length ss → ⊥) →
      passes start sides n n ss ≡ passes start sides n n (sweep start sides n ss)
  unfolding passes
  passes_go_on ss v ne =
      sym (passes_more n 1 ss v (omega arith)) ∙ rw (add-one n) (again (ne_eqb (length (sweep start sides n ss)) (length ss) ne))
    where
      again :
          eqb (length (sweep start sides n ss)) (length ss) ≡ false →
          passes start sides n (suc n) ss ≡ passes start sides n n (sweep start sides n ss)
      again e = ap (λ (b : Bool). or_else b ss (passes start sides n n (sweep start sides n ss))) e

  pub passes_stop : (ss : List Step) → length (sweep start sides n ss) ≡ length ss → passes start sides n n ss ≡ ss
  passes_stop ss e = passes_still n ss (sweep_still ss e)

pub the_last_pass_restores_nothing : TheLastPassRestoresNothing
unfolding peeled
the_last_pass_restores_nothing start sides n = passes_end start sides n n [] (tt {0}) (omega arith)

pub more_passes_restore_nothing : MorePassesRestoreNothing
unfolding peeled
more_passes_restore_nothing start sides n m = passes_more start sides n n m [] (tt {0}) (omega arith)
