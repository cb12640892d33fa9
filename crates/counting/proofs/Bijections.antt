-- Counts over two numberings of the same things, and over numbers of two digits. Assumes nothing.
use Prim.Native.Nat.{ℕ, zero, suc, ◌+◌, ◌*◌, ◌/◌, ◌%◌, ◌<◌}
use mathlib.Core.Path.{◌≡◌, refl, sym, ap, ap₂, ◌∙◌}
use mathlib.Core.Bool.{Bool, true, false, ◌&&◌}
use mathlib.Core.Logic.{◌⊎◌, inl, inr}
use lib.Arith.{digits_div, digits_mod}
use lib.Dec.{eqb}
use native.Mathlib.Nat.{zero-mul, suc-mul, mul-one}
use borrow.Author.Tests.{eq-eqb, eqb-true}
use Rattle.counting.specs.Counting.{count_below}
use Rattle.counting.proofs.Bools.{bool_either, bool_not_both, and_both, both_and}
use Rattle.counting.proofs.Laws.{count_zero, count_none, count_one, count_same, count_add}
use Rattle.counting.proofs.Sums.{sum_below, one_if, sum_same, count_as_sum, count_where, count_exchange}

-- the numbers below m and those below n are one to one
pub record OneToOne (m n : ℕ) (there back : ℕ → ℕ) : Type 0 where
  pub there_low : (i : ℕ) → i < m → there i < n
  pub back_low : (c : ℕ) → c < n → back c < m
  pub there_back : (i : ℕ) → i < m → back (there i) ≡ i
  pub back_there : (c : ℕ) → c < n → there (back c) ≡ c

-- a test that passes for i exactly if another passes for its partner counts the same
pub count_one_to_one :
    (f h : ℕ → Bool) (m n : ℕ) (there back : ℕ → ℕ) → OneToOne m n there back →
    ((i : ℕ) → i < m → f i ≡ h (there i)) → count_below f m ≡ count_below h n
count_one_to_one f h m n there back o same =
    count_as_sum f m
    ∙ sum_same (λ (i : ℕ). one_if (f i)) (λ (i : ℕ). count_below (λ (c : ℕ). f i && eqb (there i) c) n) m (λ i q. sym (row i q))
    ∙ count_exchange (λ (i c : ℕ). f i && eqb (there i) c) m n
    ∙ sum_same (λ (c : ℕ). count_below (λ (i : ℕ). f i && eqb (there i) c) m) (λ (c : ℕ). one_if (h c)) n
    (λ c q. column c q (bool_either (h c)))
    ∙ sym (count_as_sum h n)
  where
    row : (i : ℕ) → i < m → count_below (λ (c : ℕ). f i && eqb (there i) c) n ≡ one_if (f i)
    row i q =
        count_where (f i) (eqb (there i)) n
        ∙ ap (λ (x : ℕ). one_if (f i) * x)
        (count_one (eqb (there i)) n (there i) (o.there_low i q) (eq-eqb (there i) (there i) refl)
        (λ c r e. sym (eqb-true (there i) c e)))
        ∙ mul-one (one_if (f i))

    column :
        (c : ℕ) → c < n → (h c ≡ true) ⊎ (h c ≡ false) →
        count_below (λ (i : ℕ). f i && eqb (there i) c) m ≡ one_if (h c)
    column c q (inl e) =
        rw e
        (count_one (λ (i : ℕ). f i && eqb (there i) c) m (back c) (o.back_low c q)
        (both_and (f (back c)) (eqb (there (back c)) c)
        (same (back c) (o.back_low c q) ∙ ap h (o.back_there c q) ∙ e) (eq-eqb (there (back c)) c (o.back_there c q)))
        (λ i r w.
        sym (o.there_back i r) ∙ ap back (eqb-true (there i) c (and_both (f i) (eqb (there i) c) w).1)))
    column c q (inr e) =
        rw e (count_none (λ (i : ℕ). f i && eqb (there i) c) m (λ i r. none i r (bool_either (f i && eqb (there i) c))))
      where
        none :
            (i : ℕ) → i < m → ((f i && eqb (there i) c) ≡ true) ⊎ ((f i && eqb (there i) c) ≡ false) →
            (f i && eqb (there i) c) ≡ false
        none i r (inr w) = w
        none i r (inl w) =
            let both = and_both (f i) (eqb (there i) c) w in
            bool_not_both (h c) (ap h (sym (eqb-true (there i) c both.1)) ∙ sym (same i r) ∙ both.0) e

-- the passing numbers of m rows of n, counted row by row and all at once
pub count_digits :
    (f : ℕ → ℕ → Bool) (m n : ℕ) →
    sum_below (λ (i : ℕ). count_below (f i) n) m ≡ count_below (λ (x : ℕ). f (x / n) (x % n)) (m * n)
unfolding sum_below
count_digits f zero n = sym (ap (count_below (λ (x : ℕ). f (x / n) (x % n))) (zero-mul n) ∙ count_zero _)
count_digits f (suc m) n =
    ap₂ (λ (x y : ℕ). x + y) (count_digits f m n)
    (count_same (f m) (λ (j : ℕ). f ((m * n + j) / n) ((m * n + j) % n)) n
    (λ j l. sym (ap₂ f (digits_div m l) (digits_mod m l))))
    ∙ sym (count_add (λ (x : ℕ). f (x / n) (x % n)) (m * n) n)
    ∙ ap (count_below (λ (x : ℕ). f (x / n) (x % n))) (sym (suc-mul m n))
