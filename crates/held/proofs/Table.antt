-- The seven sets are difference sets: one test, computed over the table, and one law that hands on what it says of each of its
-- rows. Assumes nothing.
use Prim.Native.Nat.{ℕ, zero, suc, ◌+◌, ◌-◌, ◌*◌, ◌/◌, ◌%◌, ◌<◌}
use mathlib.Core.Path.{◌≡◌, refl, sym, ap, subst₂}
use mathlib.Core.Bool.{Bool, true, false, not, ◌&&◌, ◌||◌}
use mathlib.Core.Logic.{◌⊎◌, inl, inr, ⊎_elim}
use mathlib.Core.List.{List, [], ◌∷◌}
use native.Mathlib.Nat.{not-suc-le-zero}
use native.Mathlib.Omega.{arith}
use native.Mathlib.Decide.{dec_lt}
use lib.ListN.{length, get_or}
use lib.Dec.{ltb, eqb}
use borrow.Author.Tests.{ltb-true, eqb-true, eq-eqb, ne_eqb, not-true}
use Rattle.counting.specs.Counting.{count_below}
use Rattle.counting.proofs.Bools.{bool_either, and_both, or_one}
use Rattle.geometry.proofs.Laws.{limits_of}
use Rattle.geometry.specs.Geometry.{beyond_limits, whole, r_of, b_of}
use Rattle.held.specs.Held.{Held, table, lookup, set_for}
use Rattle.held.specs.Reasons.{HeldSet, NoSet}
use Rattle.held.specs.Developed.{Developable}

-- the test passes at each number below n
abbrev pub all_below : (ℕ → Bool) → ℕ → Bool
all_below f zero = true
all_below f (suc n) = f n && all_below f n

-- member p less member q, modulo v
abbrev pub difference : (v : ℕ) → List ℕ → (p q : ℕ) → ℕ
difference v s p q = (get_or s p 0 + (v - get_or s q 0)) % v

-- how many ordered pairs of members, given as p·k+q, have the difference x
abbrev pub pairs_with : (v : ℕ) → List ℕ → ℕ → ℕ
pairs_with v s x =
    count_below (λ (m : ℕ). eqb (difference v s (m / length s) (m % length s)) x) (length s * length s)

-- what makes s a difference set of v groups within the limits: every x with 0 < x < v is the difference of exactly one pair
pub record DifferenceSet (v : ℕ) (s : List ℕ) : Type 0 where
  pub whole_sizes : whole v (length s) ≡ true
  pub rows : b_of v (length s) ≡ v
  pub developable : Developable v s
  pub once : (x : ℕ) → 0 < x → x < v → pairs_with v s x ≡ 1

-- the same as a test
abbrev passes : (v : ℕ) → List ℕ → Bool
passes v s =
    not (beyond_limits v (length s))
    && (whole v (length s)
    && (eqb (b_of v (length s)) v
    && (all_below (λ (j : ℕ). ltb (get_or s j 0) v) (length s)
    && (all_below (λ (j : ℕ). ltb (get_or s j 0) (get_or s (j + 1) 0)) (length s - 1)
    && all_below (λ (x : ℕ). eqb x 0 || eqb (pairs_with v s x) 1) v))))

-- each row of the table passes, and their v ascend from above `low`
abbrev all_pass : ℕ → List Held → Bool
all_pass low [] = true
all_pass low (x ∷ xs) = ltb low x.v && (passes x.v x.set && all_pass x.v xs)

all_pass_lem : all_pass 0 table ≡ true
unfolding count_below beyond_limits whole r_of b_of
all_pass_lem = refl

-- ---- the law

all_below_lem : (f : ℕ → Bool) (n : ℕ) → all_below f n ≡ true → (i : ℕ) → i < n → f i ≡ true
all_below_lem f zero h i q = absurd (not-suc-le-zero q)
all_below_lem f (suc n) h i q = go (dec_lt i n) (and_both (f n) (all_below f n) h) (all_below_lem f n)
  where
    go : Dec (i < n) → (f n ≡ true) × (all_below f n ≡ true) → (all_below f n ≡ true → (i : ℕ) → i < n → f i ≡ true) → f i ≡ true
    go (yes y) w before = before w.1 i y
    go (no y) w before = let e : i ≡ n = omega arith in rw e w.0

is_set : (v : ℕ) (s : List ℕ) → passes v s ≡ true → DifferenceSet v s
is_set v s h =
    let h₁ = and_both (not (beyond_limits v (length s))) _ h in
    let h₂ = and_both (whole v (length s)) _ h₁.1 in
    let h₃ = and_both (eqb (b_of v (length s)) v) _ h₂.1 in
    let h₄ = and_both (all_below (λ (j : ℕ). ltb (get_or s j 0) v) (length s)) _ h₃.1 in
    let h₅ = and_both (all_below (λ (j : ℕ). ltb (get_or s j 0) (get_or s (j + 1) 0)) (length s - 1)) _ h₄.1 in
    record {
      whole_sizes = h₂.0;
      rows = eqb-true (b_of v (length s)) v h₃.0;
      developable =
          record {
            limits = limits_of v (length s) (not-true (beyond_limits v (length s)) h₁.0);
            below = λ j q. ltb-true (get_or s j 0) v (all_below_lem (λ (j : ℕ). ltb (get_or s j 0) v) (length s) h₄.0 j q);
            ascending =
                λ j q.
                ltb-true (get_or s j 0) (get_or s (j + 1) 0)
                (all_below_lem (λ (j : ℕ). ltb (get_or s j 0) (get_or s (j + 1) 0)) (length s - 1) h₅.0 j (omega arith));
          };
      once =
          λ x low high.
          counted x low (all_below_lem (λ (x : ℕ). eqb x 0 || eqb (pairs_with v s x) 1) v h₅.1 x high);
    }
  where
    counted : (x : ℕ) → 0 < x → (eqb x 0 || eqb (pairs_with v s x) 1) ≡ true → pairs_with v s x ≡ 1
    counted x low h =
        ⊎_elim (λ y. let z = eqb-true x 0 y in absurd (omega arith)) (λ y. eqb-true (pairs_with v s x) 1 y)
        (or_one (eqb x 0) (eqb (pairs_with v s x) 1) h)

-- what is held is the set that is found
record Known (low : ℕ) (xs : List Held) (v : ℕ) (s : List ℕ) : Type 0 where
  above : low < v
  found : lookup xs v ≡ s
  set : DifferenceSet v s

known : (low : ℕ) (xs : List Held) (v : ℕ) (s : List ℕ) → all_pass low xs ≡ true → HeldSet xs v s → Known low xs v s
known low [] v s h w = absurd w
known low (x ∷ xs) v s h w =
    let a = and_both (ltb low x.v) (passes x.v x.set && all_pass x.v xs) h in
    let b = and_both (passes x.v x.set) (all_pass x.v xs) a.1 in
    go (ltb-true low x.v a.0) b.0 w (known x.v xs v s b.1)
  where
    go :
        low < x.v → passes x.v x.set ≡ true → HeldSet (x ∷ xs) v s
        → (HeldSet xs v s → Known x.v xs v s) → Known low (x ∷ xs) v s
    go l y (inl e) rest =
        record {
          above = rw e.0 at l;
          found = rw (eq-eqb v x.v (sym e.0)) e.1;
          set = subst₂ (λ (n : ℕ) (t : List ℕ). DifferenceSet n t) e.0 e.1 (is_set x.v x.set y);
        }
    go l y (inr e) rest =
        let r = rest e in
        record {
          above = omega (arith, r.above);
          found = rw (ne_eqb v x.v (λ q. omega (arith, r.above))) r.found;
          set = r.set;
        }

-- and what is found is held, unless it is empty
found_held : (xs : List Held) (v : ℕ) → (lookup xs v ≡ []) ⊎ HeldSet xs v (lookup xs v)
found_held [] v = inl refl
found_held (x ∷ xs) v = go (bool_either (eqb v x.v)) (found_held xs v)
  where
    go :
        (eqb v x.v ≡ true) ⊎ (eqb v x.v ≡ false) → (lookup xs v ≡ []) ⊎ HeldSet xs v (lookup xs v)
        → (lookup (x ∷ xs) v ≡ []) ⊎ HeldSet (x ∷ xs) v (lookup (x ∷ xs) v)
    go (inl e) r = inr (inl (sym (eqb-true v x.v e), rw e))
    go (inr e) (inl r) = inl (rw e r)
    go (inr e) (inr r) = inr (inr (rw e r))

pub held_found : (v : ℕ) (s : List ℕ) → HeldSet table v s → set_for v ≡ s
unfolding set_for
held_found v s h = (known 0 table v s all_pass_lem h).found

pub set_held : (v : ℕ) → (length (set_for v) ≡ 0 → ⊥) → HeldSet table v (set_for v)
unfolding set_for
set_held v n = ⊎_elim (λ e. absurd (n (ap length e))) (λ h. h) (found_held table v)

-- where none is held nothing is found
pub none_found : (v : ℕ) → NoSet v → set_for v ≡ []
unfolding set_for
none_found v h = ⊎_elim (λ e. e) (λ w. absurd (h (lookup table v) w)) (found_held table v)

-- each set of the table is a difference set
pub held_set : (v : ℕ) (s : List ℕ) → HeldSet table v s → DifferenceSet v s
held_set v s h = (known 0 table v s all_pass_lem h).set

pub held_difference : (v : ℕ) → (length (set_for v) ≡ 0 → ⊥) → DifferenceSet v (set_for v)
held_difference v n = held_set v (set_for v) (set_held v n)
