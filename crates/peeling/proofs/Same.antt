-- The steps depend on the start only through the cells below n. Assumes nothing.
use Prim.Native.Nat.{ℕ, zero, suc, ◌≤◌, ◌<◌}
use mathlib.Core.Path.{◌≡◌, refl, ap, ap₂, ◌∙◌}
use mathlib.Core.Bool.{Bool, ◌||◌}
use mathlib.Core.List.{List, [], ◌∷◌}
use native.Mathlib.Omega.{arith}
use lib.Dec.{eqb}
use lib.ListN.{length}
use Rattle.peeling.specs.Peeling.{Side, Step, restored, present_after, or_else, tried, visit, sweep, passes, peeled}
use Rattle.peeling.proofs.Sides.{Every, lacks_only_same}

-- the set's units are cells below n
abbrev pub Inside : ℕ → Side → Type 0
Inside n s = (q : ℕ) → q < s.size → s.member q < n

tried_same :
    (f h : ℕ → Bool) (x : ℕ) (n : ℕ) (vs : List Side) (ss : List Step) → ((y : ℕ) → y < n → f y ≡ h y) →
    Every (Inside n) vs → tried f x vs ss ≡ tried h x vs ss
unfolding tried
tried_same f h x n [] ss same inside = refl
tried_same f h x n (v ∷ vs) ss same (i, is) =
    ap₂ (λ (b : Bool) (r : List Step). or_else b (record { cell = x; side = v } ∷ ss) r)
    (lacks_only_same f h v (λ q l. same (v.member q) (i q l))) (tried_same f h x n vs ss same is)

module _
    (start start' : ℕ → Bool) (sides : ℕ → List Side) (n : ℕ) (same : (x : ℕ) → x < n → start x ≡ start' x)
    (inside : (x : ℕ) → x < n → Every (Inside n) (sides x)) where
  pub present_same : (ss : List Step) (x : ℕ) → x < n → present_after start ss x ≡ present_after start' ss x
  unfolding present_after
  present_same ss x l = ap (λ (b : Bool). b || restored ss x) (same x l)

  visit_same : (x : ℕ) (ss : List Step) → x < n → visit start sides x ss ≡ visit start' sides x ss
  unfolding visit
  visit_same x ss l =
      ap₂ (λ (b : Bool) (r : List Step). or_else b ss r) (present_same ss x l)
      (tried_same (present_after start ss) (present_after start' ss) x n (sides x) ss (present_same ss) (inside x l))

  sweep_same : (m : ℕ) (ss : List Step) → m ≤ n → sweep start sides m ss ≡ sweep start' sides m ss
  unfolding sweep
  sweep_same zero ss l = refl
  sweep_same (suc m) ss l =
      visit_same m (sweep start sides m ss) (omega arith)
      ∙ ap (visit start' sides m) (sweep_same m ss (omega arith))

  passes_same : (fuel : ℕ) (ss : List Step) → passes start sides n fuel ss ≡ passes start' sides n fuel ss
  unfolding passes
  passes_same zero ss = refl
  passes_same (suc fuel) ss =
      ap₂ (λ (b : Bool) (r : List Step). or_else b ss r)
      (ap (λ (r : List Step). eqb (length r) (length ss)) (sweep_same n ss (omega arith)))
      (passes_same fuel (sweep start sides n ss) ∙ ap (passes start' sides n fuel) (sweep_same n ss (omega arith)))

  pub peeled_same : peeled start sides n ≡ peeled start' sides n
  unfolding peeled
  peeled_same = passes_same n []
