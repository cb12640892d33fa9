-- The definitions of the passes case by case, as the branches and loops of a program meet them. Assumes nothing.
use Prim.Native.Nat.{ℕ, ◌+◌}
use mathlib.Core.Path.{◌≡◌, refl, ap}
use mathlib.Core.Bool.{Bool, true, false}
use mathlib.Core.List.{List, [], ◌∷◌}
use native.Mathlib.Numerals.{add-one}
use Rattle.peeling.specs.Peeling.{Side, Step, lacks_only, present_after, or_else, tried, visit, sweep, passes, peeled}

module _ (present : ℕ → Bool) (x : ℕ) (ss : List Step) where
  pub tried_none : tried present x [] ss ≡ ss
  unfolding tried
  tried_none = refl

  pub tried_here :
      (v : Side) (vs : List Side) → lacks_only present v ≡ true →
      tried present x (v ∷ vs) ss ≡ (record { cell = x; side = v } ∷ ss)
  unfolding tried
  tried_here v vs h =
      ap (λ (b : Bool). or_else b (record { cell = x; side = v } ∷ ss) (tried present x vs ss)) h

  pub tried_next :
      (v : Side) (vs : List Side) → lacks_only present v ≡ false → tried present x (v ∷ vs) ss ≡ tried present x vs ss
  unfolding tried
  tried_next v vs h =
      ap (λ (b : Bool). or_else b (record { cell = x; side = v } ∷ ss) (tried present x vs ss)) h

module _ (start : ℕ → Bool) (sides : ℕ → List Side) where
  pub visit_present : (x : ℕ) (ss : List Step) → present_after start ss x ≡ true → visit start sides x ss ≡ ss
  unfolding visit
  visit_present x ss h = ap (λ (b : Bool). or_else b ss (tried (present_after start ss) x (sides x) ss)) h

  pub visit_missing :
      (x : ℕ) (ss : List Step) → present_after start ss x ≡ false →
      visit start sides x ss ≡ tried (present_after start ss) x (sides x) ss
  unfolding visit
  visit_missing x ss h = ap (λ (b : Bool). or_else b ss (tried (present_after start ss) x (sides x) ss)) h

  pub sweep_none : (ss : List Step) → sweep start sides 0 ss ≡ ss
  unfolding sweep
  sweep_none ss = refl

  pub sweep_next : (x : ℕ) (ss : List Step) → sweep start sides (x + 1) ss ≡ visit start sides x (sweep start sides x ss)
  unfolding sweep
  sweep_next x ss = rw (add-one x) refl

  pub peeled_passes : (n : ℕ) → peeled start sides n ≡ passes start sides n n []
  unfolding peeled
  peeled_passes n = refl
