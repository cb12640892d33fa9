-- When the first n numbers of a family are all zero. Assumes nothing.
use Prim.Native.Nat.{ℕ, suc, ◌+◌, ◌-◌, ◌≤◌, ◌<◌}
use mathlib.Core.Path.{◌≡◌, refl, sym, ◌∙◌, ap}
use mathlib.Core.Bool.{Bool, true, false, not, ◌&&◌}
use mathlib.Core.List.{List, [], ◌∷◌}
use Rattle.std.proofs.Math.Bool.{and_assoc, and-true}
use Rattle.std.specs.List.{fold}
use native.Mathlib.Decide.{dec_lt}
use native.Mathlib.Omega.{arith}
use lib.Bits.{bit_or}
use lib.Dec.{eqb}
use lib.ListN.{get_or, length}
use borrow.Author.Tests.{eq-eqb, ne_eqb, eqb-true, not-true, not-false}
use Rattle.counting.proofs.Bools.{and_both, both_and, and_left_false, not_is_true, not_is_false}
use Rattle.counting.proofs.Laws.{any_none, none_any, any_true}
use Rattle.leaves.specs.Bytes.{zero_below, all_zero}
use Rattle.leaves.proofs.Xor.{or_is_zero}

pub zero_holds : (f : ℕ → ℕ) (n : ℕ) → zero_below f n ≡ true → (i : ℕ) → i < n → f i ≡ 0
unfolding zero_below
zero_holds f n h i l = eqb-true (f i) 0 (not-false (eqb (f i) 0) (any_none (λ (j : ℕ). not (eqb (f j) 0)) n (not-true _ h) i l))

pub zero_is : (f : ℕ → ℕ) (n : ℕ) → ((i : ℕ) → i < n → f i ≡ 0) → zero_below f n ≡ true
unfolding zero_below
zero_is f n h =
    not_is_true _
    (none_any (λ (j : ℕ). not (eqb (f j) 0)) n (λ (i : ℕ) (l : i < n). not_is_false _ (eq-eqb (f i) 0 (h i l))))

pub zero_not : (f : ℕ → ℕ) (n i : ℕ) → i < n → (f i ≡ 0 → ⊥) → zero_below f n ≡ false
unfolding zero_below
zero_not f n i l h = not_is_false _ (any_true (λ (j : ℕ). not (eqb (f j) 0)) n i l (not_is_true _ (ne_eqb (f i) 0 h)))

-- two tests that pass together are equal
same_truth : (b c : Bool) → (b ≡ true → c ≡ true) → (c ≡ true → b ≡ true) → b ≡ c
same_truth true c p q = sym (p refl)
same_truth false true p q = q refl
same_truth false false p q = refl

pub zero_same : (f h : ℕ → ℕ) (n : ℕ) → ((i : ℕ) → i < n → f i ≡ h i) → zero_below f n ≡ zero_below h n
zero_same f h n e =
    same_truth (zero_below f n) (zero_below h n)
    (λ t. zero_is h n (λ (i : ℕ) (l : i < n). sym (e i l) ∙ zero_holds f n t i l))
    (λ t. zero_is f n (λ (i : ℕ) (l : i < n). e i l ∙ zero_holds h n t i l))

pub zero_none : (f : ℕ → ℕ) → zero_below f 0 ≡ true
zero_none f = zero_is f 0 (λ (i : ℕ) (l : i < 0). absurd (omega arith))

-- what both parts hold holds of the whole
zero_both :
    (f : ℕ → ℕ) (m n : ℕ) → zero_below f m ≡ true → zero_below (λ (i : ℕ). f (m + i)) n ≡ true → (i : ℕ) → i < m + n → Dec (i < m)
    → f i ≡ 0
zero_both f m n p q i l (yes k) = zero_holds f m p i k
zero_both f m n p q i l (no k) =
    let e : i ≡ m + (i - m) = omega arith in
    ap f e ∙ zero_holds (λ (j : ℕ). f (m + j)) n q (i - m) (omega arith)

pub zero_add : (f : ℕ → ℕ) (m n : ℕ) → zero_below f (m + n) ≡ (zero_below f m && zero_below (λ (i : ℕ). f (m + i)) n)
zero_add f m n =
    same_truth (zero_below f (m + n)) (zero_below f m && zero_below (λ (i : ℕ). f (m + i)) n)
    (λ t. both_and _ _ (zero_is f m (λ (i : ℕ) (l : i < m). zero_holds f (m + n) t i (omega arith)))
    (zero_is _ n (λ (i : ℕ) (l : i < n). zero_holds f (m + n) t (m + i) (omega arith))))
    (λ t.
    let b : (zero_below f m ≡ true) × (zero_below (λ (i : ℕ). f (m + i)) n ≡ true) = and_both _ _ t in
    zero_is f (m + n) (λ (i : ℕ) (l : i < m + n). zero_both f m n b.0 b.1 i l (dec_lt i m)))

-- what fails early fails
pub zero_fails : (f : ℕ → ℕ) (m n : ℕ) → m ≤ n → zero_below f m ≡ false → zero_below f n ≡ false
zero_fails f m n h e =
    let k : n ≡ m + (n - m) = omega arith in
    ap (zero_below f) k ∙ zero_add f m (n - m) ∙ and_left_false (zero_below f m) _ e

zero_one : (f : ℕ → ℕ) → zero_below f 1 ≡ eqb (f 0) 0
zero_one f =
    same_truth (zero_below f 1) (eqb (f 0) 0) (λ t. eq-eqb (f 0) 0 (zero_holds f 1 t 0 (omega arith)))
    (λ t. zero_is f 1 (λ (i : ℕ) (l : i < 1). let e : i ≡ 0 = omega arith in ap f e ∙ eqb-true (f 0) 0 t))

-- ---- the OR of a list
all_zero_more : (x : ℕ) (xs : List ℕ) → all_zero (x ∷ xs) ≡ (eqb x 0 && all_zero xs)
all_zero_more x xs =
    let f : ℕ → ℕ = λ i. get_or (x ∷ xs) i 0 in
    let e : suc (length xs) ≡ 1 + length xs = omega arith in
    ap (zero_below f) e ∙ zero_add f 1 (length xs) ∙ ap (λ (b : Bool). b && zero_below (λ (i : ℕ). f (1 + i)) (length xs)) (zero_one f)
    ∙ ap (λ (b : Bool). eqb x 0 && b)
    (zero_same (λ (i : ℕ). f (1 + i)) (λ (i : ℕ). get_or xs i 0) (length xs) (λ i l. let k : 1 + i ≡ suc i = omega arith in ap f k))

or_fold : (x : ℕ) (xs : List ℕ) → eqb (fold bit_or x xs) 0 ≡ (eqb x 0 && all_zero xs)
or_fold x [] = sym (ap (λ (b : Bool). eqb x 0 && b) (zero_none _) ∙ and-true (eqb x 0))
or_fold x (y ∷ ys) =
    or_fold (bit_or x y) ys ∙ ap (λ (b : Bool). b && all_zero ys) (or_is_zero x y) ∙ and_assoc (eqb x 0) (eqb y 0) (all_zero ys)
    ∙ ap (λ (b : Bool). eqb x 0 && b) (sym (all_zero_more y ys))

pub zero_fold : (xs : List ℕ) → eqb (fold bit_or 0 xs) 0 ≡ all_zero xs
zero_fold xs = or_fold 0 xs
