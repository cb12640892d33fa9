-- Lists one after the other: their laws. Assumes nothing.
use Prim.Native.Nat.{ℕ, zero, suc, ◌+◌, ◌*◌, ◌≤◌, ◌<◌}
use mathlib.Core.Path.{◌≡◌, refl, sym, ap, ap₂, ◌∙◌}
use mathlib.Core.List.{List, [], ◌++◌, append-nil, append_assoc}
use native.Mathlib.Numerals.{add-one}
use native.Mathlib.Nat.{zero-mul, suc-mul, add-zero, add-suc, le_refl}
use native.Mathlib.Decide.{ℕ_discrete}
use native.Mathlib.Omega.{arith}
use lib.ListN.{length, length-append}
use Rattle.counting.proofs.Sums.{sum_below}
use Rattle.sources.specs.Plan.{lists_of}

pub lists_none : (f : ℕ → List ℕ) → lists_of f 0 ≡ []
unfolding lists_of
lists_none f = refl

pub lists_more : (f : ℕ → List ℕ) (n : ℕ) → lists_of f (n + 1) ≡ lists_of f n ++ f n
unfolding lists_of
lists_more f n = rw (add-one n) refl

pub lists_same : (f h : ℕ → List ℕ) (n : ℕ) → ((i : ℕ) → i < n → f i ≡ h i) → lists_of f n ≡ lists_of h n
unfolding lists_of
lists_same f h zero e = refl
lists_same f h (suc n) e = ap₂ (λ (x y : List ℕ). x ++ y) (lists_same f h n (λ i q. e i (omega arith))) (e n (omega arith))

-- how long they are together
pub lists_length : (f : ℕ → List ℕ) (n : ℕ) → length (lists_of f n) ≡ sum_below (λ (i : ℕ). length (f i)) n
unfolding lists_of sum_below
lists_length f zero = refl
lists_length f (suc n) = length-append (lists_of f n) (f n) ∙ ap (λ (x : ℕ). x + length (f n)) (lists_length f n)

-- the first e and the next one are no longer than all
pub lists_room : (f : ℕ → List ℕ) (e n : ℕ) → e < n → length (lists_of f e) + length (f e) ≤ length (lists_of f n)
unfolding lists_of
lists_room f e zero h = absurd (omega arith)
lists_room f e (suc n) h = cases (ℕ_discrete e n) (λ q. lists_room f e n (omega arith))
  where
    cases :
        Dec (e ≡ n) → ((e ≡ n → ⊥) → length (lists_of f e) + length (f e) ≤ length (lists_of f n))
        → length (lists_of f e) + length (f e) ≤ length (lists_of f n ++ f n)
    cases (yes q) before = rw (q, length-append) (le_refl (length (lists_of f n) + length (f n)))
    cases (no q) before = omega (arith, before q, length-append (lists_of f n) (f n))

-- m + n of them are m and n more
pub lists_add : (f : ℕ → List ℕ) (m n : ℕ) → lists_of f (m + n) ≡ lists_of f m ++ lists_of (λ (i : ℕ). f (m + i)) n
unfolding lists_of
lists_add f m zero = ap (lists_of f) (add-zero m) ∙ sym (append-nil (lists_of f m))
lists_add f m (suc n) =
    ap (lists_of f) (add-suc m n)
    ∙ ap (λ (x : List ℕ). x ++ f (m + n)) (lists_add f m n)
    ∙ append_assoc (lists_of f m) (lists_of (λ (i : ℕ). f (m + i)) n) (f (m + n))

-- m times g of them, g by g
pub lists_times :
    (f : ℕ → List ℕ) (g m : ℕ) → lists_of f (m * g) ≡ lists_of (λ (p : ℕ). lists_of (λ (i : ℕ). f (p * g + i)) g) m
unfolding lists_of
lists_times f g zero = ap (lists_of f) (zero-mul g)
lists_times f g (suc m) =
    ap (lists_of f) (suc-mul m g)
    ∙ lists_add f (m * g) g
    ∙ ap (λ (x : List ℕ). x ++ lists_of (λ (i : ℕ). f (m * g + i)) g) (lists_times f g m)
