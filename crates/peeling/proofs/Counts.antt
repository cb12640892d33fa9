-- Each cell is restored at most once, was missing and is below n; so the steps are as many as the cells restored.
-- Assumes nothing.
use Prim.Native.Nat.{ℕ, zero, suc, ◌≤◌, ◌<◌}
use mathlib.Core.Path.{◌≡◌, refl, sym, ap, ◌∙◌}
use mathlib.Core.Bool.{Bool, true, false, not, ◌&&◌, ◌||◌}
use mathlib.Core.Logic.{◌⊎◌, inl, inr, ⊎_elim}
use mathlib.Core.List.{List, [], ◌∷◌}
use native.Mathlib.Decide.{ℕ_discrete}
use native.Mathlib.Omega.{arith}
use lib.Dec.{eqb}
use lib.ListN.{length}
use borrow.Author.Tests.{eq-eqb, ne_eqb, eqb-true}
use Rattle.counting.specs.Counting.{count_below, one_more_if}
use Rattle.counting.proofs.Bools.{bool_either, bool_not_both, and_both, and_right_false, or_one, or_none, not_is_true}
use Rattle.counting.proofs.Laws.{count_suc, count_same, count_none, count_le}
use Rattle.peeling.specs.Peeling.{Side, Step, restored, present_after, peeled}
use Rattle.peeling.specs.Theorems.{Reached, EachCellIsRestoredOnce}
use Rattle.peeling.proofs.Histories.{Fits, Valid, peeled_valid, restored_none, restored_here, restored_either}

-- a test that passes for one number more
pub count_one_more :
    (f : ℕ → Bool) (c n : ℕ) → c < n → f c ≡ false → count_below (λ (i : ℕ). eqb c i || f i) n ≡ suc (count_below f n)
count_one_more f c zero l h = absurd (omega arith)
count_one_more f c (suc n) l h = go (ℕ_discrete c n) (λ (m : c < n). count_one_more f c n m h)
  where
    more : ℕ → Bool
    more i = eqb c i || f i

    go : Dec (c ≡ n) → (c < n → count_below more n ≡ suc (count_below f n)) → count_below more (suc n) ≡ suc (count_below f (suc n))
    go (yes e) ih =
        let before : count_below more n ≡ count_below f n =
        count_same more f n (λ i q. ap (λ (b : Bool). b || f i) (ne_eqb c i (λ w. omega arith)))
        in
        let here : eqb c n ≡ true = eq-eqb c n e in
        let out : f n ≡ false = rw (← e) h in
        rw (count_suc more n, count_suc f n, here, out, before) refl
    go (no e) ih =
        let out : eqb c n ≡ false = ne_eqb c n e in
        rw (count_suc more n, count_suc f n, out, ih (omega arith)) (step (f n) (count_below f n))
      where
        step : (b : Bool) (m : ℕ) → one_more_if b (suc m) ≡ suc (one_more_if b m)
        step true m = refl
        step false m = refl

-- a test that passes wherever another does counts no fewer
pub count_within :
    (f h : ℕ → Bool) (n : ℕ) → ((i : ℕ) → i < n → f i ≡ true → h i ≡ true) → count_below f n ≤ count_below h n
unfolding count_below
count_within f h zero e = omega arith
count_within f h (suc n) e =
    step (f n) (h n) (count_below f n) (count_below h n) (e n (omega arith)) (count_within f h n (λ i q. e i (omega arith)))
  where
    step : (a b : Bool) (x y : ℕ) → (a ≡ true → b ≡ true) → x ≤ y → one_more_if a x ≤ one_more_if b y
    step true true x y w l = omega arith
    step true false x y w l = bool_not_both false (w refl) refl
    step false true x y w l = omega arith
    step false false x y w l = l

-- no cell is restored twice
abbrev pub Apart : List Step → Type 0
Apart [] = Unit {0}
Apart (s ∷ ss) = (restored ss s.cell ≡ false) × Apart ss

module _ (start : ℕ → Bool) (sides : ℕ → List Side) (n : ℕ) where
  not_restored_yet : (s : Step) (ss : List Step) → Fits start sides n s ss → restored ss s.cell ≡ false
  unfolding present_after
  not_restored_yet s ss f = (or_none (start s.cell) (restored ss s.cell) f.missing).1

  pub valid_apart : (ss : List Step) → Valid start sides n ss → Apart ss
  valid_apart [] v = tt {0}
  valid_apart (s ∷ ss) (f, v) = (not_restored_yet s ss f, valid_apart ss v)

  pub length_counts : (ss : List Step) → Valid start sides n ss → length ss ≡ count_below (restored ss) n
  unfolding restored
  length_counts [] v = sym (count_none (restored []) n (λ i q. refl))
  length_counts (s ∷ ss) (f, v) =
      ap suc (length_counts ss v) ∙ sym (count_one_more (restored ss) s.cell n f.below (not_restored_yet s ss f))

  pub length_low : (ss : List Step) → Valid start sides n ss → length ss ≤ n
  length_low ss v = rw (length_counts ss v) (count_le (restored ss) n)

  pub restored_below : (ss : List Step) → Valid start sides n ss → (x : ℕ) → restored ss x ≡ true → x < n
  restored_below [] v x h = restored_none x h
  restored_below (s ∷ ss) (f, v) x h =
      ⊎_elim (λ (e : s.cell ≡ x). rw e at f.below) (restored_below ss v x) (restored_either s ss x h)

  pub restored_missing : (ss : List Step) → Valid start sides n ss → (x : ℕ) → restored ss x ≡ true → start x ≡ false
  unfolding present_after
  restored_missing [] v x h = restored_none x h
  restored_missing (s ∷ ss) (f, v) x h =
      ⊎_elim
      (λ (e : s.cell ≡ x). rw e at (or_none (start s.cell) (restored ss s.cell) f.missing).0)
      (restored_missing ss v x) (restored_either s ss x h)

pub each_cell_is_restored_once : EachCellIsRestoredOnce
each_cell_is_restored_once start sides n =
    let v = peeled_valid start sides n in
    record {
      below = restored_below start sides n (peeled start sides n) v;
      missing = restored_missing start sides n (peeled start sides n) v;
      counted = length_counts start sides n (peeled start sides n) v;
    }

pub no_cell_is_restored_twice : (start : ℕ → Bool) (sides : ℕ → List Side) (n : ℕ) → Apart (peeled start sides n)
no_cell_is_restored_twice start sides n = valid_apart start sides n (peeled start sides n) (peeled_valid start sides n)

-- the count of restored units: those missing at the start and present at the end
pub the_count_of_restored_cells :
    (start : ℕ → Bool) (sides : ℕ → List Side) (n : ℕ) →
    length (peeled start sides n)
    ≡ count_below (λ (x : ℕ). not (start x) && present_after start (peeled start sides n) x) n
unfolding present_after
the_count_of_restored_cells start sides n =
    length_counts start sides n steps v ∙ count_same (restored steps) _ n (λ x q. each x (bool_either (start x)))
  where
    steps : List Step
    steps = peeled start sides n

    v : Valid start sides n steps
    v = peeled_valid start sides n

    each : (x : ℕ) → (start x ≡ true) ⊎ (start x ≡ false) → restored steps x ≡ (not (start x) && (start x || restored steps x))
    each x (inr e) = rw e
    each x (inl e) = rw e (⊎_elim yes_restored (λ (h : restored steps x ≡ false). h) (bool_either (restored steps x)))
      where
        yes_restored : restored steps x ≡ true → restored steps x ≡ false
        yes_restored h = bool_not_both (start x) e (restored_missing start sides n steps v x h)

-- "the count of restored units .., which is the number of units on lost disks": where every cell is reached
pub the_count_where_all_are_reached :
    (start : ℕ → Bool) (sides : ℕ → List Side) (n : ℕ) → ((x : ℕ) → x < n → Reached start sides n x) →
    length (peeled start sides n) ≡ count_below (λ (x : ℕ). not (start x)) n
the_count_where_all_are_reached start sides n all =
    the_count_of_restored_cells start sides n
    ∙ count_same _ (λ (x : ℕ). not (start x)) n
    (λ x q. ap (λ (b : Bool). not (start x) && b) (all x q) ∙ and_true (not (start x)))
  where
    and_true : (b : Bool) → (b && true) ≡ b
    and_true true = refl
    and_true false = refl

-- and only there, so a count tells whether every cell is reached
pub all_are_reached_by_count :
    (start : ℕ → Bool) (sides : ℕ → List Side) (n : ℕ) →
    length (peeled start sides n) ≡ count_below (λ (x : ℕ). not (start x)) n → (x : ℕ) → x < n → Reached start sides n x
unfolding present_after
all_are_reached_by_count start sides n e x l =
    ⊎_elim (λ (h : Reached start sides n x). h) (λ h. absurd (too_many h))
    (bool_either (present_after start (peeled start sides n) x))
  where
    gained : ℕ → Bool
    gained i = not (start i) && present_after start (peeled start sides n) i

    lost : ℕ → Bool
    lost i = not (start i)

    too_many : present_after start (peeled start sides n) x ≡ false → ⊥
    too_many h =
        let more : count_below (λ (i : ℕ). eqb x i || gained i) n ≡ suc (count_below gained n) =
        count_one_more gained x n l (and_right_false (lost x) (present_after start (peeled start sides n) x) h)
        in
        let at_most : count_below (λ (i : ℕ). eqb x i || gained i) n ≤ count_below lost n =
        count_within (λ (i : ℕ). eqb x i || gained i) lost n (λ i q w. each i (or_one (eqb x i) (gained i) w))
        in
        omega (arith, e, the_count_of_restored_cells start sides n)
      where
        each : (i : ℕ) → (eqb x i ≡ true) ⊎ (gained i ≡ true) → lost i ≡ true
        each i (inl w) =
            ap lost (sym (eqb-true x i w))
            ∙ not_is_true (start x) (or_none (start x) (restored (peeled start sides n) x) h).0
        each i (inr w) = (and_both (lost i) (present_after start (peeled start sides n) i) w).0

-- "6. No disk lost: accepted, 0 restored": with every cell present there are no steps
pub nothing_is_restored :
    (start : ℕ → Bool) (sides : ℕ → List Side) (n : ℕ) → ((x : ℕ) → x < n → start x ≡ true) → peeled start sides n ≡ []
nothing_is_restored start sides n all = go (peeled start sides n) (peeled_valid start sides n)
  where
    go : (ss : List Step) → Valid start sides n ss → ss ≡ []
    go [] v = refl
    go (s ∷ ss) (f, v) =
        bool_not_both (start s.cell) (all s.cell f.below)
        (restored_missing start sides n (s ∷ ss) (f, v) s.cell (restored_here s ss s.cell refl))
