-- The laws of `lowest`, `any_below`, `count_below` and `nth_below`: callers use these and not the definitions' text.
-- Assumes nothing.
use Prim.Native.Nat.{ℕ, zero, suc, ◌+◌, ◌≤◌, ◌<◌}
use mathlib.Core.Path.{◌≡◌, refl, sym, ap, ◌∙◌}
use mathlib.Core.Bool.{Bool, true, false, ◌&&◌}
use mathlib.Core.Logic.{◌⊎◌, inl, inr, ⊎_elim}
use native.Mathlib.Nat.{add-zero, add-suc, not-suc-le-zero}
use native.Mathlib.Numerals.{add-one}
use native.Mathlib.Omega.{arith}
use lib.Dec.{ltb, eqb}
use borrow.Author.Tests.{le-ltb, ltb-true, ltb-false, eq-eqb, ne_eqb}
use Rattle.std.specs.Prelude.{Option, Some, None}
use Rattle.counting.specs.Counting.{one_more_if, count_below, lowest_step, lowest, any_below, some_if, first_below, nth_below}
use Rattle.counting.proofs.Bools.{bool_either, bool_not_both, both_and, and_left_false, and_right_false}

-- ---- the lowest

-- what `lowest` means: at most n, all before it fail, and it passes unless it is n
pub record Lowest (f : ℕ → Bool) (n x : ℕ) : Type 0 where
  pub le : x ≤ n
  pub before : (i : ℕ) → i < x → f i ≡ false
  pub holds : x < n → f x ≡ true

lowest_found : (f : ℕ → Bool) (n x : ℕ) → x < n → Lowest f n x → Lowest f (suc n) x
lowest_found f n x h r =
    record { le = omega arith; before = r.before; holds = λ (_ : x < suc n). r.holds h }

lowest_here : (f : ℕ → Bool) (n x : ℕ) → n ≤ x → f n ≡ true → Lowest f n x → Lowest f (suc n) n
lowest_here f n x h p r =
    record { le = omega arith; before = λ (i : ℕ) (q : i < n). r.before i (omega arith); holds = λ (_ : n < suc n). p }

lowest_not : (f : ℕ → Bool) (n x : ℕ) → n ≤ x → f n ≡ false → Lowest f n x → Lowest f (suc n) (suc n)
lowest_not f n x h p r =
    record { le = omega arith; before = each; holds = λ (q : suc n < suc n). absurd (omega arith) }
  where
    at : (i : ℕ) → (i < n) ⊎ (n ≤ i) → i < suc n → f i ≡ false
    at i (inl q) s = r.before i (omega arith)
    at i (inr q) s = let e : i ≡ n = omega arith in rw e p

    each : (i : ℕ) → i < suc n → f i ≡ false
    each i s = at i (split i) s
      where
        split : (j : ℕ) → (j < n) ⊎ (n ≤ j)
        split j = ⊎_elim (λ (q : ltb j n ≡ true). inl (ltb-true j n q)) (λ (q : ltb j n ≡ false). inr (ltb-false j n q)) (bool_either (ltb j n))

lowest_step_lem : (f : ℕ → Bool) (n x : ℕ) (found here : Bool) → ltb x n ≡ found → f n ≡ here → Lowest f n x → Lowest f (suc n) (lowest_step found here x n)
lowest_step_lem f n x true here p q r = lowest_found f n x (ltb-true x n p) r
lowest_step_lem f n x false true p q r = lowest_here f n x (ltb-false x n p) q r
lowest_step_lem f n x false false p q r = lowest_not f n x (ltb-false x n p) q r

pub lowest_laws : (f : ℕ → Bool) (n : ℕ) → Lowest f n (lowest f n)
unfolding lowest
lowest_laws f zero =
    record {
      le = omega arith;
      before = λ (i : ℕ) (h : i < 0). absurd (not-suc-le-zero h);
      holds = λ (h : 0 < 0). absurd (not-suc-le-zero h);
    }
lowest_laws f (suc n) = lowest_step_lem f n (lowest f n) (ltb (lowest f n) n) (f n) refl refl (lowest_laws f n)

pub lowest_le : (f : ℕ → Bool) (n : ℕ) → lowest f n ≤ n
lowest_le f n = (lowest_laws f n).le

pub lowest_holds : (f : ℕ → Bool) (n : ℕ) → lowest f n < n → f (lowest f n) ≡ true
lowest_holds f n = (lowest_laws f n).holds

pub lowest_before : (f : ℕ → Bool) (n i : ℕ) → i < lowest f n → f i ≡ false
lowest_before f n = (lowest_laws f n).before

-- one number alone is the lowest
order : (x y : ℕ) → (x < y) ⊎ ((x ≡ y) ⊎ (y < x))
order x y = ⊎_elim (λ (p : ltb x y ≡ true). inl (ltb-true x y p)) (λ (p : ltb x y ≡ false). inr (rest (bool_either (ltb y x)) (ltb-false x y p))) (bool_either (ltb x y))
  where
    rest : (ltb y x ≡ true) ⊎ (ltb y x ≡ false) → y ≤ x → (x ≡ y) ⊎ (y < x)
    rest (inl p) h = inr (ltb-true y x p)
    rest (inr p) h = inl (let q : x ≤ y = ltb-false y x p in omega arith)

pub lowest_only : (f : ℕ → Bool) (n x y : ℕ) → Lowest f n x → Lowest f n y → x ≡ y
lowest_only f n x y r s = go (order x y)
  where
    go : (x < y) ⊎ ((x ≡ y) ⊎ (y < x)) → x ≡ y
    go (inl h) =
        let b : y ≤ n = s.le in
        let l : x < n = omega arith in
        bool_not_both (f x) (r.holds l) (s.before x h)
    go (inr (inl e)) = e
    go (inr (inr h)) =
        let b : x ≤ n = r.le in
        let l : y < n = omega arith in
        bool_not_both (f y) (s.holds l) (r.before y h)

pub lowest_is : (f : ℕ → Bool) (n x : ℕ) → x < n → f x ≡ true → ((i : ℕ) → i < x → f i ≡ false) → lowest f n ≡ x
lowest_is f n x h p b =
    lowest_only f n (lowest f n) x (lowest_laws f n)
    (record { le = omega arith; before = b; holds = λ (_ : x < n). p })

pub lowest_none : (f : ℕ → Bool) (n : ℕ) → ((i : ℕ) → i < n → f i ≡ false) → lowest f n ≡ n
lowest_none f n b =
    lowest_only f n (lowest f n) n (lowest_laws f n)
    (record { le = omega arith; before = b; holds = λ (h : n < n). absurd (omega arith) })

pub lowest_same : (f h : ℕ → Bool) (n : ℕ) → ((i : ℕ) → i < n → f i ≡ h i) → lowest f n ≡ lowest h n
unfolding lowest
lowest_same f h zero e = refl
lowest_same f h (suc n) e =
    let a : lowest f n ≡ lowest h n = lowest_same f h n (λ (i : ℕ) (p : i < n). e i (omega arith)) in
    let b : f n ≡ h n = e n (omega arith) in
    rw (a, b)

-- ---- some

pub any_true : (f : ℕ → Bool) (n x : ℕ) → x < n → f x ≡ true → any_below f n ≡ true
any_true f n x h p = go (bool_either (ltb (lowest f n) n))
  where
    go : (ltb (lowest f n) n ≡ true) ⊎ (ltb (lowest f n) n ≡ false) → any_below f n ≡ true
    go (inl q) = q
    go (inr q) =
        let l : n ≤ lowest f n = ltb-false (lowest f n) n q in
        bool_not_both (f x) p (lowest_before f n x (omega arith))

pub any_witness : (f : ℕ → Bool) (n : ℕ) → any_below f n ≡ true → (x : ℕ) × (x < n) × (f x ≡ true)
any_witness f n h =
    let l : lowest f n < n = ltb-true (lowest f n) n h in
    (lowest f n, l, lowest_holds f n l)

pub any_none : (f : ℕ → Bool) (n : ℕ) → any_below f n ≡ false → (i : ℕ) → i < n → f i ≡ false
any_none f n h i p =
    let l : n ≤ lowest f n = ltb-false (lowest f n) n h in
    lowest_before f n i (omega arith)

pub none_any : (f : ℕ → Bool) (n : ℕ) → ((i : ℕ) → i < n → f i ≡ false) → any_below f n ≡ false
none_any f n b =
    let e : lowest f n ≡ n = lowest_none f n b in
    le-ltb (lowest f n) n (omega arith)

pub any_same : (f h : ℕ → Bool) (n : ℕ) → ((i : ℕ) → i < n → f i ≡ h i) → any_below f n ≡ any_below h n
any_same f h n e = ap (λ (x : ℕ). ltb x n) (lowest_same f h n e)

-- ---- the first, if there is one

pub first_is :
    (f : ℕ → Bool) (n x : ℕ) → x < n → f x ≡ true → ((i : ℕ) → i < x → f i ≡ false) → first_below f n ≡ Some x
first_is f n x h p b = rw (any_true f n x h p, lowest_is f n x h p b) refl

pub first_none : (f : ℕ → Bool) (n : ℕ) → ((i : ℕ) → i < n → f i ≡ false) → first_below f n ≡ None
first_none f n b = rw (none_any f n b) refl

-- what an answer says: `Some` names the lowest, `None` says that no number passes
pub first_some : (f : ℕ → Bool) (n x : ℕ) → first_below f n ≡ Some x → (any_below f n ≡ true) × (x ≡ lowest f n) × (x < n)
first_some f n x e = go (any_below f n) refl e
  where
    go : (t : Bool) → any_below f n ≡ t → some_if t (lowest f n) ≡ Some x → (any_below f n ≡ true) × (x ≡ lowest f n) × (x < n)
    go true h w = let s : x ≡ lowest f n = cc in (h, s, rw s (ltb-true (lowest f n) n h))
    go false h w = absurd (cc)

pub first_silent : (f : ℕ → Bool) (n : ℕ) → first_below f n ≡ None → any_below f n ≡ false
first_silent f n e = go (any_below f n) refl e
  where
    go : (t : Bool) → any_below f n ≡ t → some_if t (lowest f n) ≡ None → any_below f n ≡ false
    go true h w = absurd (cc)
    go false h w = h

-- ---- how many

pub count_zero : (f : ℕ → Bool) → count_below f 0 ≡ 0
unfolding count_below
count_zero f = refl

pub count_suc : (f : ℕ → Bool) (n : ℕ) → count_below f (suc n) ≡ one_more_if (f n) (count_below f n)
unfolding count_below
count_suc f n = refl

pub count_more : (f : ℕ → Bool) (n : ℕ) → f n ≡ true → count_below f (n + 1) ≡ count_below f n + 1
count_more f n p = rw (add-one n, count_suc f n, p, add-one (count_below f n))

pub count_same_more : (f : ℕ → Bool) (n : ℕ) → f n ≡ false → count_below f (n + 1) ≡ count_below f n
count_same_more f n p = rw (add-one n, count_suc f n, p)

one_more_le : (b : Bool) (n m : ℕ) → n ≤ m → one_more_if b n ≤ suc m
one_more_le true n m h = omega arith
one_more_le false n m h = omega arith

le_one_more : (b : Bool) (n m : ℕ) → m ≤ n → m ≤ one_more_if b n
le_one_more true n m h = omega arith
le_one_more false n m h = h

pub count_le : (f : ℕ → Bool) (n : ℕ) → count_below f n ≤ n
count_le f zero = let e : count_below f 0 ≡ 0 = count_zero f in omega arith
count_le f (suc n) = rw count_suc (one_more_le (f n) (count_below f n) n (count_le f n))

pub count_mono : (f : ℕ → Bool) (m n : ℕ) → m ≤ n → count_below f m ≤ count_below f n
count_mono f m zero h = let e : m ≡ 0 = omega arith in rw e (omega arith)
count_mono f m (suc n) h = go (bool_either (ltb m (suc n))) (λ (p : m ≤ n). count_mono f m n p)
  where
    go : (ltb m (suc n) ≡ true) ⊎ (ltb m (suc n) ≡ false) → (m ≤ n → count_below f m ≤ count_below f n) → count_below f m ≤ count_below f (suc n)
    go (inl q) ih =
        let l : m < suc n = ltb-true m (suc n) q in
        rw (count_suc f n) (le_one_more (f n) (count_below f n) (count_below f m) (ih (omega arith)))
    go (inr q) ih =
        let l : suc n ≤ m = ltb-false m (suc n) q in
        let e : m ≡ suc n = omega arith in
        rw e (omega arith)

pub count_lt : (f : ℕ → Bool) (i n : ℕ) → i < n → f i ≡ true → count_below f i < count_below f n
count_lt f i n h p =
    let a : count_below f (i + 1) ≡ count_below f i + 1 = count_more f i p in
    let b : count_below f (i + 1) ≤ count_below f n = count_mono f (i + 1) n (omega arith) in
    omega arith

pub count_only : (f : ℕ → Bool) (i j : ℕ) → f i ≡ true → f j ≡ true → count_below f i ≡ count_below f j → i ≡ j
count_only f i j p q e = go (order i j)
  where
    go : (i < j) ⊎ ((i ≡ j) ⊎ (j < i)) → i ≡ j
    go (inl h) = let l : count_below f i < count_below f j = count_lt f i j h p in absurd (omega arith)
    go (inr (inl s)) = s
    go (inr (inr h)) = let l : count_below f j < count_below f i = count_lt f j i h q in absurd (omega arith)

pub count_same : (f h : ℕ → Bool) (n : ℕ) → ((i : ℕ) → i < n → f i ≡ h i) → count_below f n ≡ count_below h n
count_same f h zero e = count_zero f ∙ sym (count_zero h)
count_same f h (suc n) e =
    let a : count_below f n ≡ count_below h n = count_same f h n (λ (i : ℕ) (p : i < n). e i (omega arith)) in
    let b : f n ≡ h n = e n (omega arith) in
    rw (count_suc f n, count_suc h n, a, b)

pub count_none : (f : ℕ → Bool) (n : ℕ) → ((i : ℕ) → i < n → f i ≡ false) → count_below f n ≡ 0
count_none f zero e = count_zero f
count_none f (suc n) e =
    let a : f n ≡ false = e n (omega arith) in
    rw (count_suc f n, a) (count_none f n (λ (i : ℕ) (p : i < n). e i (omega arith)))

pub count_add : (f : ℕ → Bool) (m n : ℕ) → count_below f (m + n) ≡ count_below f m + count_below (λ (i : ℕ). f (m + i)) n
count_add f m zero =
    let a : count_below (λ (i : ℕ). f (m + i)) 0 ≡ 0 = count_zero (λ (i : ℕ). f (m + i)) in
    rw (add-zero m) (omega arith)
count_add f m (suc n) =
    rw (add-suc m n, count_suc f (m + n), count_suc (λ (i : ℕ). f (m + i)) n)
    (step (f (m + n)) (count_below f (m + n)) (count_below f m) (count_below (λ (i : ℕ). f (m + i)) n) (count_add f m n))
  where
    step : (b : Bool) (x y z : ℕ) → x ≡ y + z → one_more_if b x ≡ y + one_more_if b z
    step true x y z e = omega arith
    step false x y z e = e

-- a test that one number alone passes
pub count_one : (f : ℕ → Bool) (n x : ℕ) → x < n → f x ≡ true → ((i : ℕ) → i < n → f i ≡ true → i ≡ x) → count_below f n ≡ 1
count_one f zero x h p u = absurd (not-suc-le-zero h)
count_one f (suc n) x h p u = go (bool_either (f n)) (λ (q : x < n). count_one f n x q p (λ (i : ℕ) (s : i < n). u i (omega arith)))
  where
    go : (f n ≡ true) ⊎ (f n ≡ false) → (x < n → count_below f n ≡ 1) → count_below f (suc n) ≡ 1
    go (inl q) ih =
        let e : n ≡ x = u n (omega arith) q in
        let fails : (i : ℕ) → i < n → f i ≡ false = λ (i : ℕ) (s : i < n). ⊎_elim (λ (t : f i ≡ true). let d : i ≡ x = u i (omega arith) t in absurd (omega arith)) (λ (t : f i ≡ false). t) (bool_either (f i)) in
        let z : count_below f n ≡ 0 = count_none f n fails in
        rw (count_suc f n, q) (omega arith)
    go (inr q) ih =
        rw (count_suc f n, q) (ih (apart (order x n)))
      where
        apart : (x < n) ⊎ ((x ≡ n) ⊎ (n < x)) → x < n
        apart (inl s) = s
        apart (inr (inl s)) = let t : f n ≡ true = rw (← s) p in bool_not_both (f n) t q
        apart (inr (inr s)) = absurd (omega arith)

pub count_one_is : (f : ℕ → Bool) (n : ℕ) → count_below f n ≡ 1 → (x : ℕ) × (x < n) × (f x ≡ true) × ((i : ℕ) → i < n → f i ≡ true → i ≡ x)
count_one_is f n e = go (bool_either (any_below f n))
  where
    Result : Type 0
    Result = (x : ℕ) × (x < n) × (f x ≡ true) × ((i : ℕ) → i < n → f i ≡ true → i ≡ x)

    go : (any_below f n ≡ true) ⊎ (any_below f n ≡ false) → Result
    go (inl h) =
        let w : (x : ℕ) × (x < n) × (f x ≡ true) = any_witness f n h in
        (w.0, w.1, w.2, λ (i : ℕ) (p : i < n) (q : f i ≡ true). count_only f i w.0 q w.2 (same i p q w.0 w.1 w.2))
      where
        same : (i : ℕ) → i < n → f i ≡ true → (x : ℕ) → x < n → f x ≡ true → count_below f i ≡ count_below f x
        same i p q x s t =
            let a : count_below f i < count_below f n = count_lt f i n p q in
            let b : count_below f x < count_below f n = count_lt f x n s t in
            omega arith
    go (inr h) =
        let z : count_below f n ≡ 0 = count_none f n (any_none f n h) in
        absurd (omega arith)

-- ---- the p-th

pub nth_count : (f : ℕ → Bool) (n i : ℕ) → i < n → f i ≡ true → nth_below f n (count_below f i) ≡ i
nth_count f n i h p =
    lowest_is (λ (j : ℕ). f j && eqb (count_below f j) (count_below f i)) n i h
    (both_and (f i) (eqb (count_below f i) (count_below f i)) p (eq-eqb (count_below f i) (count_below f i) refl))
    (λ (j : ℕ) (q : j < i). fails j q (bool_either (f j)))
  where
    fails : (j : ℕ) → j < i → (f j ≡ true) ⊎ (f j ≡ false) → (f j && eqb (count_below f j) (count_below f i)) ≡ false
    fails j q (inl t) =
        let l : count_below f j < count_below f i = count_lt f j i q t in
        and_right_false (f j) (eqb (count_below f j) (count_below f i)) (ne_eqb (count_below f j) (count_below f i) (λ (e : count_below f j ≡ count_below f i). omega arith))
    fails j q (inr t) = and_left_false (f j) (eqb (count_below f j) (count_below f i)) t

-- for each p below the count there is an index that passes with p before it
pub record Nth (f : ℕ → Bool) (n p : ℕ) : Type 0 where
  pub index : ℕ
  pub below : index < n
  pub holds : f index ≡ true
  pub before : count_below f index ≡ p

pub nth_exists : (f : ℕ → Bool) (n p : ℕ) → p < count_below f n → Nth f n p
nth_exists f zero p h = let e : count_below f 0 ≡ 0 = count_zero f in absurd (omega arith)
nth_exists f (suc n) p h = go (bool_either (f n)) (order p (count_below f n)) (λ (q : p < count_below f n). nth_exists f n p q)
  where
    wider : Nth f n p → Nth f (suc n) p
    wider r = record { index = r.index; below = let b : r.index < n = r.below in omega arith; holds = r.holds; before = r.before }

    go : (f n ≡ true) ⊎ (f n ≡ false) → (p < count_below f n) ⊎ ((p ≡ count_below f n) ⊎ (count_below f n < p)) → (p < count_below f n → Nth f n p) → Nth f (suc n) p
    go (inl q) (inl s) ih = wider (ih s)
    go (inl q) (inr (inl s)) ih = record { index = n; below = omega arith; holds = q; before = sym s }
    go (inl q) (inr (inr s)) ih =
        let e : count_below f (n + 1) ≡ count_below f n + 1 = count_more f n q in
        let m : count_below f (suc n) ≡ count_below f n + 1 = rw (add-one n) at e in
        absurd (omega arith)
    go (inr q) s ih =
        let e : count_below f (n + 1) ≡ count_below f n = count_same_more f n q in
        let m : count_below f (suc n) ≡ count_below f n = rw (add-one n) at e in
        wider (ih (omega arith))

-- the p-th is that index
nth_at : (f : ℕ → Bool) (n p : ℕ) → (r : Nth f n p) → nth_below f n p ≡ r.index
nth_at f n p r =
    let e : nth_below f n (count_below f r.index) ≡ r.index = nth_count f n r.index r.below r.holds in
    rw r.before at e

pub nth_lt : (f : ℕ → Bool) (n p : ℕ) → p < count_below f n → nth_below f n p < n
nth_lt f n p h = let r = nth_exists f n p h in rw (nth_at f n p r) r.below

pub nth_holds : (f : ℕ → Bool) (n p : ℕ) → p < count_below f n → f (nth_below f n p) ≡ true
nth_holds f n p h = let r = nth_exists f n p h in rw (nth_at f n p r) r.holds

pub count_nth : (f : ℕ → Bool) (n p : ℕ) → p < count_below f n → count_below f (nth_below f n p) ≡ p
count_nth f n p h = let r = nth_exists f n p h in rw (nth_at f n p r) r.before
