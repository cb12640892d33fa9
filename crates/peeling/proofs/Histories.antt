-- What a visit does, and the one induction over visits, passes and all the passes: a property of the steps that one fitting
-- step more keeps is kept by all of them. Assumes nothing.
use Prim.Native.Nat.{ℕ, zero, suc, ◌≤◌, ◌<◌}
use mathlib.Core.Path.{◌≡◌, refl, sym, ap, subst, ◌∙◌}
use mathlib.Core.Bool.{Bool, true, false, ◌||◌}
use mathlib.Core.Logic.{◌⊎◌, inl, inr, ⊎_elim}
use mathlib.Core.List.{List, [], ◌∷◌}
use native.Mathlib.Omega.{arith}
use lib.Dec.{eqb}
use lib.ListN.{length}
use borrow.Author.Tests.{eq-eqb, ne_eqb, eqb-true}
use Rattle.counting.proofs.Bools.{bool_not_both, or_one, left_or, right_or}
use Rattle.peeling.specs.Peeling.{
  Side,
  Step,
  lacks_only,
  restored,
  present_after,
  or_else,
  tried,
  visit,
  sweep,
  passes,
  peeled,
}
use Rattle.peeling.proofs.Sides.{Among, Every}

-- ---- presence

pub present_from_start : (start : ℕ → Bool) (ss : List Step) (x : ℕ) → start x ≡ true → present_after start ss x ≡ true
unfolding present_after
present_from_start start ss x h = left_or (start x) (restored ss x) h

pub present_restored : (start : ℕ → Bool) (ss : List Step) (x : ℕ) → restored ss x ≡ true → present_after start ss x ≡ true
unfolding present_after
present_restored start ss x h = right_or (start x) (restored ss x) h

pub present_either :
    (start : ℕ → Bool) (ss : List Step) (x : ℕ) → present_after start ss x ≡ true → (start x ≡ true) ⊎ (restored ss x ≡ true)
unfolding present_after
present_either start ss x h = or_one (start x) (restored ss x) h

pub restored_none : {X : Type 0} (x : ℕ) → restored [] x ≡ true → X
unfolding restored
restored_none x h = bool_not_both false h refl

pub restored_here : (s : Step) (ss : List Step) (x : ℕ) → s.cell ≡ x → restored (s ∷ ss) x ≡ true
unfolding restored
restored_here s ss x e = left_or (eqb s.cell x) (restored ss x) (eq-eqb s.cell x e)

pub restored_before : (s : Step) (ss : List Step) (x : ℕ) → restored ss x ≡ true → restored (s ∷ ss) x ≡ true
unfolding restored
restored_before s ss x h = right_or (eqb s.cell x) (restored ss x) h

pub restored_either :
    (s : Step) (ss : List Step) (x : ℕ) → restored (s ∷ ss) x ≡ true → (s.cell ≡ x) ⊎ (restored ss x ≡ true)
unfolding restored
restored_either s ss x h =
    ⊎_elim (λ (e : eqb s.cell x ≡ true). inl (eqb-true s.cell x e)) (λ (e : restored ss x ≡ true). inr e)
    (or_one (eqb s.cell x) (restored ss x) h)

pub present_none : (start : ℕ → Bool) (x : ℕ) → present_after start [] x ≡ start x
unfolding present_after restored
present_none start x = or_false (start x)
  where
    or_false : (b : Bool) → (b || false) ≡ b
    or_false true = refl
    or_false false = refl

pub present_here : (start : ℕ → Bool) (s : Step) (ss : List Step) (x : ℕ) → s.cell ≡ x → present_after start (s ∷ ss) x ≡ true
present_here start s ss x e = present_restored start (s ∷ ss) x (restored_here s ss x e)

pub present_elsewhere :
    (start : ℕ → Bool) (s : Step) (ss : List Step) (x : ℕ) → (s.cell ≡ x → ⊥) →
    present_after start (s ∷ ss) x ≡ present_after start ss x
unfolding present_after restored
present_elsewhere start s ss x ne = ap (λ (b : Bool). start x || (b || restored ss x)) (ne_eqb s.cell x ne)

-- ---- one visit

-- what a trial of the sets vs may do: one step from a set that lacks only the cell, or nothing where none does
pub record Restores (present : ℕ → Bool) (x : ℕ) (vs : List Side) (ss ts : List Step) : Type 0 where
  pub side : Side
  pub among : Among side vs
  pub lacks : lacks_only present side ≡ true
  pub is : ts ≡ (record { cell = x; side = side } ∷ ss)

pub record Leaves (present : ℕ → Bool) (vs : List Side) (ss ts : List Step) : Type 0 where
  pub none : Every (λ (v : Side). lacks_only present v ≡ false) vs
  pub is : ts ≡ ss

pub tried_does :
    (present : ℕ → Bool) (x : ℕ) (vs : List Side) (ss : List Step) →
    Restores present x vs ss (tried present x vs ss) ⊎ Leaves present vs ss (tried present x vs ss)
unfolding tried
tried_does present x [] ss = inr (record { none = tt {0}; is = refl })
tried_does present x (v ∷ vs) ss = go (lacks_only present v) refl (tried_does present x vs ss)
  where
    After : Bool → List Step
    After b = or_else b (record { cell = x; side = v } ∷ ss) (tried present x vs ss)

    go :
        (b : Bool) → lacks_only present v ≡ b →
        Restores present x vs ss (tried present x vs ss) ⊎ Leaves present vs ss (tried present x vs ss) →
        Restores present x (v ∷ vs) ss (After b) ⊎ Leaves present (v ∷ vs) ss (After b)
    go true e ih = inl (record { side = v; among = inl refl; lacks = e; is = refl })
    go false e (inl r) = inl (record { side = r.side; among = inr r.among; lacks = r.lacks; is = r.is })
    go false e (inr r) = inr (record { none = (e, r.none); is = r.is })

module _ (start : ℕ → Bool) (sides : ℕ → List Side) (n : ℕ) where
  -- the step fits those before it: its cell is below n and was missing, its set is one of the cell's and lacked only it
  pub record Fits (s : Step) (ss : List Step) : Type 0 where
    pub below : s.cell < n
    pub missing : present_after start ss s.cell ≡ false
    pub among : Among s.side (sides s.cell)
    pub lacks : lacks_only (present_after start ss) s.side ≡ true

  -- every step fits
  abbrev pub Valid : List Step → Type 0
  Valid [] = Unit {0}
  Valid (s ∷ ss) = Fits s ss × Valid ss

  -- why a visit changes nothing
  abbrev pub Idle : ℕ → List Step → Type 0
  Idle x ss =
      (present_after start ss x ≡ true) ⊎ Every (λ (v : Side). lacks_only (present_after start ss) v ≡ false) (sides x)

  pub record Adds (x : ℕ) (ss : List Step) : Type 0 where
    pub step : Step
    pub fits : Fits step ss
    pub is : visit start sides x ss ≡ (step ∷ ss)

  pub visit_does : (x : ℕ) (ss : List Step) → x < n → Adds x ss ⊎ (Idle x ss × (visit start sides x ss ≡ ss))
  unfolding visit
  visit_does x ss l =
      go (present_after start ss x) refl refl (tried_does (present_after start ss) x (sides x) ss)
    where
      Trial : List Step
      Trial = tried (present_after start ss) x (sides x) ss

      go :
          (b : Bool) → present_after start ss x ≡ b → visit start sides x ss ≡ or_else b ss Trial →
          Restores (present_after start ss) x (sides x) ss Trial ⊎ Leaves (present_after start ss) (sides x) ss Trial →
          Adds x ss ⊎ (Idle x ss × (visit start sides x ss ≡ ss))
      go true e d r = inr (inl e, d)
      go false e d (inl r) =
          inl
          (record {
            step = record { cell = x; side = r.side };
            fits = record { below = l; missing = e; among = r.among; lacks = r.lacks };
            is = d ∙ r.is;
          })
      go false e d (inr r) = inr (inr r.none, d ∙ r.is)

  -- ---- the induction
  module _ (Q : List Step → Type 0) (more : (s : Step) (ss : List Step) → Fits s ss → Q ss → Q (s ∷ ss)) where
    pub visit_keeps : (x : ℕ) (ss : List Step) → x < n → Q ss → Q (visit start sides x ss)
    visit_keeps x ss l q = go (visit_does x ss l)
      where
        go : Adds x ss ⊎ (Idle x ss × (visit start sides x ss ≡ ss)) → Q (visit start sides x ss)
        go (inl r) = subst Q (sym r.is) (more r.step ss r.fits q)
        go (inr (_, e)) = subst Q (sym e) q

    pub sweep_keeps : (m : ℕ) (ss : List Step) → m ≤ n → Q ss → Q (sweep start sides m ss)
    unfolding sweep
    sweep_keeps zero ss l q = q
    sweep_keeps (suc m) ss l q = visit_keeps m (sweep start sides m ss) (omega arith) (sweep_keeps m ss (omega arith) q)

    pub passes_keep : (fuel : ℕ) (ss : List Step) → Q ss → Q (passes start sides n fuel ss)
    unfolding passes
    passes_keep zero ss q = q
    passes_keep (suc fuel) ss q =
        go (eqb (length (sweep start sides n ss)) (length ss))
        (passes_keep fuel (sweep start sides n ss) (sweep_keeps n ss (omega arith) q))
      where
        After : Bool → List Step
        After b = or_else b ss (passes start sides n fuel (sweep start sides n ss))

        go : (b : Bool) → Q (After false) → Q (After b)
        go true r = q
        go false r = r

  pub sweep_valid : (m : ℕ) (ss : List Step) → m ≤ n → Valid ss → Valid (sweep start sides m ss)
  sweep_valid = sweep_keeps Valid (λ s ss f v. (f, v))

  pub peeled_valid : Valid (peeled start sides n)
  unfolding peeled
  peeled_valid = passes_keep Valid (λ s ss f v. (f, v)) n [] (tt {0})
