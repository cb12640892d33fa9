-- The number that digits stand for, read one by one. Assumes nothing.
use Prim.Native.Nat.{ℕ, zero, suc, ◌+◌, ◌-◌, ◌*◌, ◌^◌, ◌<◌, ◌≤◌}
use mathlib.Core.Path.{◌≡◌, ap, ◌∙◌}
use mathlib.Core.List.{List, [], ◌∷◌}
use native.Mathlib.Nat.{pow-suc, pow-le-pow_right}
use native.Mathlib.Numerals.{add-one}
use native.Mathlib.Omega.{arith}
use lib.ListN.{length, get_or, take}
use Rattle.std.proofs.lemmas.List.{take_more}
use Rattle.decimals.specs.Decimal.{Digits, decimal}
use Rattle.decimals.proofs.Laws.{digit_bounds, from_append, from_one}

-- each byte of them is a digit
pub digit_at : (xs : List ℕ) (i : ℕ) → Digits xs → i < length xs → (48 ≤ get_or xs i 0) × (get_or xs i 0 ≤ 57)
digit_at [] i d h = absurd (omega arith)
digit_at (x ∷ xs) zero d h = digit_bounds x d.0
digit_at (x ∷ xs) (suc i) d h = digit_at xs i d.1 (omega arith)

-- one digit more
pub read_more :
    (xs : List ℕ) (i : ℕ) → i < length xs → decimal (take (i + 1) xs) ≡ decimal (take i xs) * 10 + (get_or xs i 0 - 48)
read_more xs i h =
    ap decimal (take_more xs i 0 h)
    ∙ from_append 0 (take i xs) (get_or xs i 0 ∷ [])
    ∙ from_one (decimal (take i xs)) (get_or xs i 0)

pub below_more : (n x i : ℕ) → n < 10 ^ i → x ≤ 57 → n * 10 + (x - 48) < 10 ^ (i + 1)
below_more n x i h d = let e : 10 ^ (i + 1) ≡ 10 ^ i * 10 = rw (add-one i) (pow-suc 10 i) in omega arith

-- before the ninth digit the number is below 10^8
pub below_most : (n i : ℕ) → n < 10 ^ i → i < 9 → n < 10 ^ 8
below_most n i h l = let p : 10 ^ i ≤ 10 ^ 8 = pow-le-pow_right {n = 10} (omega arith) {i = i} {j = 8} (omega arith) in omega arith
