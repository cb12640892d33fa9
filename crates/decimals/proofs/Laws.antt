-- The decimal of a number, digit by digit: what a proof about it goes by. Assumes nothing.
use Prim.Native.Nat.{ℕ, zero, suc, ◌+◌, ◌-◌, ◌*◌, ◌/◌, ◌%◌, ◌^◌, ◌<◌, ◌≤◌}
use mathlib.Core.Path.{◌≡◌, refl, sym, ap, ◌∙◌}
use mathlib.Core.Bool.{true, false}
use mathlib.Core.Logic.{◌⊎◌, inl, inr}
use mathlib.Core.List.{List, [], ◌∷◌, ◌++◌}
use native.Mathlib.Nat.{pow-suc, not-suc-le-zero, le_refl}
use native.Mathlib.Omega.{arith}
use lib.Dec.{ltb, leb}
use lib.ListN.{length, get_or, length-append, get_or-append}
use borrow.Author.Tests.{lt-ltb, le-ltb, ltb-true, ltb-false, le-leb, leb-true}
use Rattle.counting.proofs.Bools.{bool_either, both_and, and_both}
use Rattle.decimals.specs.Decimal.{is_digit, digit, Digits, decimal_from, decimal, digits_below, decimal_of}

below_low : (f n : ℕ) → n < 10 → digits_below (suc f) n ≡ digit n ∷ []
unfolding digits_below
below_low f n h = rw (lt-ltb n 10 h)

below_high : (f n : ℕ) → 10 ≤ n → digits_below (suc f) n ≡ digits_below f (n / 10) ++ (digit (n % 10) ∷ [])
unfolding digits_below
below_high f n h = rw (le-ltb n 10 h)

-- any bound above the number gives the same digits
below_same : (f g n : ℕ) → n < f → n < g → digits_below f n ≡ digits_below g n
below_same zero g n h q = absurd (not-suc-le-zero h)
below_same (suc f) zero n h q = absurd (not-suc-le-zero q)
below_same (suc f) (suc g) n h q = go (bool_either (ltb n 10)) (below_same f g (n / 10))
  where
    go :
        (ltb n 10 ≡ true) ⊎ (ltb n 10 ≡ false) → (n / 10 < f → n / 10 < g → digits_below f (n / 10) ≡ digits_below g (n / 10)) →
        digits_below (suc f) n ≡ digits_below (suc g) n
    go (inl e) ih = let l : n < 10 = ltb-true n 10 e in below_low f n l ∙ sym (below_low g n l)
    go (inr e) ih =
        let l : 10 ≤ n = ltb-false n 10 e in
        rw (below_high f n l, below_high g n l, ih (omega arith) (omega arith))

pub one_digit : (n : ℕ) → n < 10 → decimal_of n ≡ digit n ∷ []
one_digit n h = below_low n n h

pub more_digits : (n : ℕ) → 10 ≤ n → decimal_of n ≡ decimal_of (n / 10) ++ (digit (n % 10) ∷ [])
more_digits n h =
    below_high n n h
    ∙ ap (λ (xs : List ℕ). xs ++ (digit (n % 10) ∷ [])) (below_same n (suc (n / 10)) (n / 10) (omega arith) (omega arith))

-- what holds of one digit, and of a number with one digit more, holds of every decimal
by_digits :
    (P : ℕ → List ℕ → Type 0) → ((n : ℕ) → n < 10 → P n (digit n ∷ [])) →
    ((n : ℕ) (xs : List ℕ) → 10 ≤ n → P (n / 10) xs → P n (xs ++ (digit (n % 10) ∷ []))) →
    (f n : ℕ) → n < f → P n (digits_below f n)
by_digits P one more zero n h = absurd (not-suc-le-zero h)
by_digits P one more (suc f) n h = go (bool_either (ltb n 10)) (by_digits P one more f (n / 10))
  where
    go : (ltb n 10 ≡ true) ⊎ (ltb n 10 ≡ false) → (n / 10 < f → P (n / 10) (digits_below f (n / 10))) → P n (digits_below (suc f) n)
    go (inl e) ih = let l : n < 10 = ltb-true n 10 e in rw (below_low f n l) (one n l)
    go (inr e) ih =
        let l : 10 ≤ n = ltb-false n 10 e in
        rw (below_high f n l) (more n (digits_below f (n / 10)) l (ih (omega arith)))

-- ---- what they read as

pub is_digit_lem : (n : ℕ) → n < 10 → is_digit (digit n) ≡ true
unfolding is_digit
is_digit_lem n h =
    both_and (leb 48 (digit n)) (leb (digit n) 57) (le-leb 48 (digit n) (omega arith)) (le-leb (digit n) 57 (omega arith))

pub digit_bounds : (x : ℕ) → is_digit x ≡ true → (48 ≤ x) × (x ≤ 57)
unfolding is_digit
digit_bounds x h = let b = and_both (leb 48 x) (leb x 57) h in (leb-true 48 x b.0, leb-true x 57 b.1)

digits_append : (xs ys : List ℕ) → Digits xs → Digits ys → Digits (xs ++ ys)
digits_append [] ys p q = q
digits_append (x ∷ xs) ys p q = (p.0, digits_append xs ys p.1 q)

pub from_append : (n : ℕ) (xs ys : List ℕ) → decimal_from n (xs ++ ys) ≡ decimal_from (decimal_from n xs) ys
unfolding decimal_from
from_append n [] ys = refl
from_append n (x ∷ xs) ys = from_append (n * 10 + (x - 48)) xs ys

pub from_none : (n : ℕ) → decimal_from n [] ≡ n
unfolding decimal_from
from_none n = refl

pub from_cons : (n x : ℕ) (xs : List ℕ) → decimal_from n (x ∷ xs) ≡ decimal_from (n * 10 + (x - 48)) xs
unfolding decimal_from
from_cons n x xs = refl

pub from_one : (n x : ℕ) → decimal_from n (x ∷ []) ≡ n * 10 + (x - 48)
unfolding decimal_from
from_one n x = refl

abbrev Reads : ℕ → List ℕ → Type 0
Reads n xs = Digits xs × (1 ≤ length xs) × (decimal xs ≡ n)

reads_one : (n : ℕ) → n < 10 → Reads n (digit n ∷ [])
reads_one n h = ((is_digit_lem n h, tt), le_refl 1, from_one 0 (48 + n) ∙ omega arith)

reads_more : (n : ℕ) (xs : List ℕ) → 10 ≤ n → Reads (n / 10) xs → Reads n (xs ++ (digit (n % 10) ∷ []))
reads_more n xs h p = (
  digits_append xs (digit (n % 10) ∷ []) p.0 (is_digit_lem (n % 10) (omega arith), tt),
  rw length-append (omega (arith, p.1)),
  rw (from_append 0 xs (digit (n % 10) ∷ []), p.2, from_one (n / 10) (48 + n % 10)) (omega arith),
)

pub reads_as : (n : ℕ) → Reads n (decimal_of n)
reads_as n = by_digits Reads reads_one reads_more (suc n) n (le_refl (suc n))

-- ---- no leading zero

abbrev Leads : ℕ → List ℕ → Type 0
Leads n xs = (1 ≤ length xs) × (get_or xs 0 0 ≡ 48 → n ≡ 0)

leads_one : (n : ℕ) → n < 10 → Leads n (digit n ∷ [])
leads_one n h = (le_refl 1, λ (e : 48 + n ≡ 48). omega arith)

leads_more : (n : ℕ) (xs : List ℕ) → 10 ≤ n → Leads (n / 10) xs → Leads n (xs ++ (digit (n % 10) ∷ []))
leads_more n xs h p = (
  rw length-append (omega (arith, p.0)),
  λ e. let z : n / 10 ≡ 0 = p.1 (sym (get_or-append xs (digit (n % 10) ∷ []) 0 0 p.0) ∙ e) in absurd (omega arith),
)

pub leads : (n : ℕ) → Leads n (decimal_of n)
leads n = by_digits Leads leads_one leads_more (suc n) n (le_refl (suc n))

-- ---- how many they are

abbrev Few : ℕ → List ℕ → Type 0
Few n xs = (k : ℕ) → n < 10 ^ suc k → length xs ≤ suc k

few_one : (n : ℕ) → n < 10 → Few n (digit n ∷ [])
few_one n h k q = omega arith

few_more : (n : ℕ) (xs : List ℕ) → 10 ≤ n → Few (n / 10) xs → Few n (xs ++ (digit (n % 10) ∷ []))
few_more n xs h p zero q = absurd (let e : n < 10 = q in omega arith)
few_more n xs h p (suc k) q =
    let l : n < 10 ^ suc k * 10 = rw (pow-suc 10 (suc k)) at q in
    let m : length xs ≤ suc k = p k (omega arith) in
    rw length-append (omega arith)

pub few : (n k : ℕ) → 1 ≤ k → n < 10 ^ k → length (decimal_of n) ≤ k
few n zero h q = absurd (not-suc-le-zero h)
few n (suc k) h q = by_digits Few few_one few_more (suc n) n (le_refl (suc n)) k q
