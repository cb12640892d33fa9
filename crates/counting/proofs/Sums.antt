-- Sums over the numbers below n, and counts as sums of ones: a table added up by rows and by columns gives the same.
-- Assumes nothing.
use Prim.Native.Nat.{ℕ, zero, suc, ◌+◌, ◌*◌, ◌<◌}
use mathlib.Core.Path.{◌≡◌, refl, sym, ap, ◌∙◌}
use mathlib.Core.Bool.{Bool, true, false, ◌&&◌}
use mathlib.Core.Logic.{⊎_elim}
use lib.Dec.{eqb}
use native.Mathlib.Nat.{zero-mul, mul-zero, suc-mul, add-mul, mul-one, one-mul}
use native.Mathlib.Decide.{ℕ_discrete}
use native.Mathlib.Omega.{arith}
use borrow.Author.Tests.{eq-eqb, eqb-true}
use Rattle.counting.specs.Counting.{one_more_if, count_below, any_below}
use Rattle.counting.proofs.Bools.{bool_either}
use Rattle.counting.proofs.Laws.{any_witness, any_none, count_zero, count_suc, count_none, count_one}

-- f 0 + f 1 + .. + f (n - 1)
unfoldable pub sum_below : (ℕ → ℕ) → ℕ → ℕ
sum_below f zero = zero
sum_below f (suc n) = sum_below f n + f n

-- 1 where the test passes, else 0
abbrev pub one_if : Bool → ℕ
one_if b = one_more_if b 0

-- ---- sums

pub sum_same : (f h : ℕ → ℕ) (n : ℕ) → ((i : ℕ) → i < n → f i ≡ h i) → sum_below f n ≡ sum_below h n
unfolding sum_below
sum_same f h zero e = refl
sum_same f h (suc n) e = omega (arith, sum_same f h n (λ i q. e i (omega arith)), e n (omega arith))

pub sum_const : (x n : ℕ) → sum_below (λ (i : ℕ). x) n ≡ n * x
unfolding sum_below
sum_const x zero = sym (zero-mul x)
sum_const x (suc n) = omega (arith, sum_const x n, suc-mul n x)

pub sum_add : (f h : ℕ → ℕ) (n : ℕ) → sum_below (λ (i : ℕ). f i + h i) n ≡ sum_below f n + sum_below h n
unfolding sum_below
sum_add f h zero = refl
sum_add f h (suc n) = omega (arith, sum_add f h n)

pub sum_scaled : (f : ℕ → ℕ) (x n : ℕ) → sum_below (λ (i : ℕ). f i * x) n ≡ sum_below f n * x
unfolding sum_below
sum_scaled f x zero = sym (zero-mul x)
sum_scaled f x (suc n) = omega (arith, sum_scaled f x n, add-mul (sum_below f n) (f n) x)

-- a table of m rows of n numbers
pub sum_exchange :
    (f : ℕ → ℕ → ℕ) (m n : ℕ) →
    sum_below (λ (i : ℕ). sum_below (f i) n) m ≡ sum_below (λ (j : ℕ). sum_below (λ (i : ℕ). f i j) m) n
unfolding sum_below
sum_exchange f zero n = sym (sum_const 0 n ∙ mul-zero n)
sum_exchange f (suc m) n =
    omega (arith, sum_exchange f m n, sum_add (λ (j : ℕ). sum_below (λ (i : ℕ). f i j) m) (f m) n)

-- all but one are y
pub sum_but_one :
    (f : ℕ → ℕ) (n a y : ℕ) → a < n → ((i : ℕ) → i < n → (i ≡ a → ⊥) → f i ≡ y) → sum_below f n + y ≡ f a + n * y
unfolding sum_below
sum_but_one f zero a y h e = omega arith
sum_but_one f (suc n) a y h e =
    cases (ℕ_discrete a n) (λ q. sum_but_one f n a y (omega arith) (λ i r. e i (omega arith)))
  where
    cases : Dec (a ≡ n) → ((a ≡ n → ⊥) → sum_below f n + y ≡ f a + n * y) → sum_below f n + f n + y ≡ f a + suc n * y
    cases (yes q) before =
        let same : sum_below f n ≡ n * y =
        sum_same f (λ (i : ℕ). y) n (λ i r. e i (omega arith) (λ w. omega arith)) ∙ sum_const y n
        in
        omega (arith, same, ap f q, suc-mul n y)
    cases (no q) before = omega (arith, before q, e n (omega arith) (λ w. q (sym w)), suc-mul n y)

-- ---- counts

pub count_next : (f : ℕ → Bool) (n : ℕ) → count_below f (suc n) ≡ count_below f n + one_if (f n)
count_next f n = count_suc f n ∙ step (f n) (count_below f n)
  where
    step : (b : Bool) (x : ℕ) → one_more_if b x ≡ x + one_if b
    step true x = omega arith
    step false x = omega arith

pub count_as_sum : (f : ℕ → Bool) (n : ℕ) → count_below f n ≡ sum_below (λ (i : ℕ). one_if (f i)) n
unfolding sum_below
count_as_sum f zero = count_zero f
count_as_sum f (suc n) = omega (arith, count_next f n, count_as_sum f n)

-- tests that share a condition
pub count_where : (b : Bool) (f : ℕ → Bool) (n : ℕ) → count_below (λ (i : ℕ). b && f i) n ≡ one_if b * count_below f n
count_where true f n = sym (one-mul (count_below f n))
count_where false f n = count_none (λ (i : ℕ). false) n (λ i q. refl) ∙ sym (zero-mul (count_below f n))

-- a table of m rows of n tests
pub count_exchange :
    (f : ℕ → ℕ → Bool) (m n : ℕ) →
    sum_below (λ (i : ℕ). count_below (f i) n) m ≡ sum_below (λ (j : ℕ). count_below (λ (i : ℕ). f i j) m) n
count_exchange f m n =
    sum_same (λ (i : ℕ). count_below (f i) n) (λ (i : ℕ). sum_below (λ (j : ℕ). one_if (f i j)) n) m
    (λ i q. count_as_sum (f i) n)
    ∙ sum_exchange (λ (i j : ℕ). one_if (f i j)) m n
    ∙ sum_same (λ (j : ℕ). sum_below (λ (i : ℕ). one_if (f i j)) m) (λ (j : ℕ). count_below (λ (i : ℕ). f i j) m) n
    (λ j q. sym (count_as_sum (λ (i : ℕ). f i j) m))

-- where at most one passes, the count says whether one does
pub count_once :
    (f : ℕ → Bool) (n : ℕ) → ((i j : ℕ) → i < n → j < n → f i ≡ true → f j ≡ true → i ≡ j) →
    count_below f n ≡ one_if (any_below f n)
count_once f n only = ⊎_elim one none (bool_either (any_below f n))
  where
    one : any_below f n ≡ true → count_below f n ≡ one_if (any_below f n)
    one e =
        let w = any_witness f n e in
        rw e (count_one f n w.0 w.1 w.2 (λ i q y. only i w.0 q w.1 y w.2))

    none : any_below f n ≡ false → count_below f n ≡ one_if (any_below f n)
    none e = rw e (count_none f n (any_none f n e))

-- k distinct numbers below v: so many numbers below v are among them
pub count_among :
    (f : ℕ → ℕ) (k v : ℕ) → ((l : ℕ) → l < k → f l < v) →
    ((l m : ℕ) → l < k → m < k → f l ≡ f m → l ≡ m) → count_below (λ (c : ℕ). any_below (λ (l : ℕ). eqb (f l) c) k) v ≡ k
count_among f k v low once =
    count_as_sum among v
    ∙ sum_same (λ (c : ℕ). one_if (among c)) (λ (c : ℕ). count_below (λ (l : ℕ). eqb (f l) c) k) v (λ c q. sym (each c))
    ∙ count_exchange (λ (c l : ℕ). eqb (f l) c) v k
    ∙ sum_same (λ (l : ℕ). count_below (eqb (f l)) v) (λ (l : ℕ). 1) k
    (λ l q.
    count_one (eqb (f l)) v (f l) (low l q) (eq-eqb (f l) (f l) refl) (λ i r e. sym (eqb-true (f l) i e)))
    ∙ sum_const 1 k
    ∙ mul-one k
  where
    among : ℕ → Bool
    among c = any_below (λ (l : ℕ). eqb (f l) c) k

    each : (c : ℕ) → count_below (λ (l : ℕ). eqb (f l) c) k ≡ one_if (among c)
    each c =
        count_once (λ (l : ℕ). eqb (f l) c) k
        (λ i j p q x y. once i j p q (eqb-true (f i) c x ∙ sym (eqb-true (f j) c y)))
