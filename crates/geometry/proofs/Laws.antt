-- The laws of a geometry's limits and derived numbers. Assumes nothing.
use Prim.Native.Nat.{ℕ, ◌-◌, ◌*◌, ◌%◌, ◌≤◌, ◌<◌}
use mathlib.Core.Path.{◌≡◌}
use mathlib.Core.Bool.{true, false, ◌&&◌, ◌||◌}
use mathlib.Core.Logic.{◌⊎◌, inl, inr}
use native.Mathlib.Nat.{div-le_self, div-mul-le_self, mul-le-mul, mul-le-mul_left, mul_assoc, eq_of_mul-eq-mul_right}
use native.Mathlib.Omega.{arith}
use lib.Dec.{ltb, leb, eqb}
use borrow.Author.Tests.{ltb-false, le-ltb, leb-true, eqb-true, le-leb, eq-eqb}
use Rattle.counting.proofs.Bools.{bool_either, bool_not_both, or_none, and_both, both_and, and_left_false, and_right_false, not_is_true, not_is_false}
use Rattle.counting.proofs.Laws.{any_true, none_any}
use Rattle.geometry.specs.declared.Geometry.{Geometry}
use Rattle.geometry.specs.Geometry.{Limits, Sound, beyond_limits, r_of, b_of, whole, no_divisor_below, sizes_allowed, disks_of, parts_of, units_of, tuples_of, user_units_of, tuple_sets_of, sets_of, bytes_of}

-- ---- the limits

pub limits_of : (v k : ℕ) → beyond_limits v k ≡ false → Limits v k
unfolding beyond_limits
limits_of v k h =
    let h₁ = or_none (ltb v 2 || ltb 91 v || ltb k 2 || ltb 10 k) (ltb v k) h in
    let h₂ = or_none (ltb v 2 || ltb 91 v || ltb k 2) (ltb 10 k) h₁.0 in
    let h₃ = or_none (ltb v 2 || ltb 91 v) (ltb k 2) h₂.0 in
    let h₄ = or_none (ltb v 2) (ltb 91 v) h₃.0 in
    record {
      v_low = ltb-false v 2 h₄.0;
      v_high = ltb-false 91 v h₄.1;
      k_low = ltb-false k 2 h₃.1;
      k_high = ltb-false 10 k h₂.1;
      k_v = ltb-false v k h₁.1;
    }

pub of_limits : (v k : ℕ) → Limits v k → beyond_limits v k ≡ false
unfolding beyond_limits
of_limits v k h =
    simp (le-ltb v 2 h.v_low, le-ltb 91 v h.v_high, le-ltb k 2 h.k_low, le-ltb 10 k h.k_high, le-ltb v k h.k_v)

-- ---- r and b

pub pair_bound : (v k : ℕ) → Limits v k → v * (v - 1) ≤ 8190
pair_bound v k h = let p : v - 1 ≤ 90 = omega arith in mul-le-mul h.v_high p

pub tuple_pos : (v k : ℕ) → Limits v k → 0 < k * (k - 1)
tuple_pos v k h = let p : 1 ≤ k - 1 = omega arith in omega (arith, mul-le-mul h.k_low p)

pub r_times : (v k : ℕ) → r_of v k * (k - 1) ≤ v - 1
unfolding r_of
r_times v k = div-mul-le_self (v - 1) (k - 1)

pub b_times : (v k : ℕ) → b_of v k * (k * (k - 1)) ≤ v * (v - 1)
unfolding b_of
b_times v k = div-mul-le_self (v * (v - 1)) (k * (k - 1))

pub r_bound : (v k : ℕ) → Limits v k → r_of v k ≤ 90
unfolding r_of
r_bound v k h = omega (arith, div-le_self (v - 1) (k - 1))

pub entries_bound : (v k : ℕ) → Limits v k → b_of v k * k ≤ 8190
entries_bound v k h =
    let p : 1 ≤ k - 1 = omega arith in
    omega (arith, mul-le-mul_left (b_of v k * k) p, mul_assoc (b_of v k) k (k - 1), b_times v k, pair_bound v k h)

pub b_bound : (v k : ℕ) → Limits v k → b_of v k ≤ 4095
b_bound v k h = omega (arith, mul-le-mul_left (b_of v k) h.k_low, entries_bound v k h)

-- 000's first equation: b·k = v·r, both being the number of entries of the design
pub bk_vr : (G : Geometry) → Sound G → b_of G.v G.k * G.k ≡ G.v * r_of G.v G.k
bk_vr G s = eq_of_mul-eq-mul_right (G.k - 1) p (b_of G.v G.k * G.k) (G.v * r_of G.v G.k) e
  where
    p : 0 < G.k - 1
    p = omega (arith, s.limits.k_low)

    e : b_of G.v G.k * G.k * (G.k - 1) ≡ G.v * r_of G.v G.k * (G.k - 1)
    e = rw (mul_assoc (b_of G.v G.k) G.k (G.k - 1), mul_assoc G.v (r_of G.v G.k) (G.k - 1), s.r_whole, s.b_whole)

-- ---- the sizes: each fits 32 bits, and the bytes 64

pub disks_bound : (G : Geometry) → Sound G → disks_of G ≤ 1183
unfolding disks_of
disks_bound G s = mul-le-mul s.limits.v_high s.g_high

pub parts_bound : (G : Geometry) → Sound G → parts_of G ≤ 90
unfolding parts_of
parts_bound G s = r_bound G.v G.k s.limits

pub units_bound : (G : Geometry) → Sound G → units_of G ≤ 1170
unfolding units_of
units_bound G s = mul-le-mul (r_bound G.v G.k s.limits) s.g_high

pub tuples_bound : (G : Geometry) → Sound G → tuples_of G ≤ 4095
unfolding tuples_of
tuples_bound G s = b_bound G.v G.k s.limits

-- the data regions
pub regions_bound : (G : Geometry) → Sound G → b_of G.v G.k * (G.k - 1) ≤ 8190
regions_bound G s =
    let p : G.k - 1 ≤ G.k = omega arith in
    omega (arith, mul-le-mul_left (b_of G.v G.k) p, entries_bound G.v G.k s.limits)

-- their rows of user units
pub rows_bound : (G : Geometry) → Sound G → b_of G.v G.k * (G.k - 1) * (G.g - 1) ≤ 98280
rows_bound G s = let p : G.g - 1 ≤ 12 = omega arith in mul-le-mul (regions_bound G s) p

pub user_units_bound : (G : Geometry) → Sound G → user_units_of G ≤ 1277640
unfolding user_units_of
user_units_bound G s = mul-le-mul (rows_bound G s) s.g_high

pub labels_bound : (G : Geometry) → Sound G → (G.g - 1) * G.g ≤ 156
labels_bound G s = let p : G.g - 1 ≤ 12 = omega arith in mul-le-mul p s.g_high

pub diagonals_bound : (G : Geometry) → Sound G → G.k * G.g ≤ 130
diagonals_bound G s = mul-le-mul s.limits.k_high s.g_high

pub tuple_sets_bound : (G : Geometry) → Sound G → tuple_sets_of G ≤ 286
unfolding tuple_sets_of
tuple_sets_bound G s = omega (arith, labels_bound G s, diagonals_bound G s)

pub sets_bound : (G : Geometry) → Sound G → sets_of G ≤ 1171170
unfolding sets_of
sets_bound G s = mul-le-mul (b_bound G.v G.k s.limits) (tuple_sets_bound G s)

-- the parts of all disks
pub all_parts_bound : (G : Geometry) → Sound G → G.v * G.g * r_of G.v G.k ≤ 106470
unfolding disks_of
all_parts_bound G s = mul-le-mul (disks_bound G s) (r_bound G.v G.k s.limits)

-- their units
pub all_units_bound : (G : Geometry) → Sound G → G.v * G.g * r_of G.v G.k * G.g ≤ 1384110
all_units_bound G s = mul-le-mul (all_parts_bound G s) s.g_high

pub bytes_bound : (G : Geometry) → Sound G → bytes_of G ≤ 5669314560
unfolding bytes_of
bytes_bound G s = mul-le-mul (all_units_bound G s) s.u_high

-- ---- divisors of g

-- no e below n and from 2 on divides g
abbrev pub NoDivisor : (n g : ℕ) → Type 0
NoDivisor n g = (e : ℕ) → e < n → 2 ≤ e → g % e ≡ 0 → ⊥

pub no_divisors : (n g : ℕ) → NoDivisor n g → no_divisor_below n g ≡ true
unfolding no_divisor_below
no_divisors n g h =
    not_is_true _ (none_any _ n (λ (e : ℕ) (p : e < n). each e p (bool_either (leb 2 e)) (bool_either (eqb (g % e) 0))))
  where
    each : (e : ℕ) → e < n → (leb 2 e ≡ true) ⊎ (leb 2 e ≡ false) → (eqb (g % e) 0 ≡ true) ⊎ (eqb (g % e) 0 ≡ false) → (leb 2 e && eqb (g % e) 0) ≡ false
    each e p (inr q) s = and_left_false (leb 2 e) (eqb (g % e) 0) q
    each e p (inl q) (inr s) = and_right_false (leb 2 e) (eqb (g % e) 0) s
    each e p (inl q) (inl s) = absurd (h e p (leb-true 2 e q) (eqb-true (g % e) 0 s))

pub has_divisor : (n g e : ℕ) → e < n → 2 ≤ e → g % e ≡ 0 → no_divisor_below n g ≡ false
unfolding no_divisor_below
has_divisor n g e p q s =
    not_is_false _
    (any_true (λ (x : ℕ). leb 2 x && eqb (g % x) 0) n e p
    (both_and (leb 2 e) (eqb (g % e) 0) (le-leb 2 e q) (eq-eqb (g % e) 0 s)))

pub no_divisor : (n g : ℕ) → no_divisor_below n g ≡ true → NoDivisor n g
no_divisor n g h e p q s = bool_not_both (no_divisor_below n g) h (has_divisor n g e p q s)

-- that g is prime is used at refusal 6 alone: what the layout needs is less
pub prime_enough : (k g : ℕ) → no_divisor_below g g ≡ true → k ≤ g → no_divisor_below k g ≡ true
prime_enough k g h l =
    no_divisors k g (λ (e : ℕ) (p : e < k) (q : 2 ≤ e) (s : g % e ≡ 0). no_divisor g g h e (omega arith) q s)

-- ---- g and u

-- what refusal 6 leaves
pub record Allowed (k g u : ℕ) : Type 0 where
  pub g_low : 2 ≤ g
  pub g_high : g ≤ 13
  pub prime : no_divisor_below g g ≡ true
  pub k_g : k ≤ g
  pub u_low : 1 ≤ u
  pub u_high : u ≤ 4096

pub allowed_parts : (k g u : ℕ) → sizes_allowed k g u ≡ true → Allowed k g u
unfolding sizes_allowed
allowed_parts k g u h =
    let h₁ = and_both (leb 2 g && leb g 13 && no_divisor_below g g && leb k g && leb 1 u) (leb u 4096) h in
    let h₂ = and_both (leb 2 g && leb g 13 && no_divisor_below g g && leb k g) (leb 1 u) h₁.0 in
    let h₃ = and_both (leb 2 g && leb g 13 && no_divisor_below g g) (leb k g) h₂.0 in
    let h₄ = and_both (leb 2 g && leb g 13) (no_divisor_below g g) h₃.0 in
    let h₅ = and_both (leb 2 g) (leb g 13) h₄.0 in
    record {
      g_low = leb-true 2 g h₅.0;
      g_high = leb-true g 13 h₅.1;
      prime = h₄.1;
      k_g = leb-true k g h₃.1;
      u_low = leb-true 1 u h₂.1;
      u_high = leb-true u 4096 h₁.1;
    }

pub parts_allowed : (k g u : ℕ) → Allowed k g u → sizes_allowed k g u ≡ true
unfolding sizes_allowed
parts_allowed k g u a =
    simp (le-leb 2 g a.g_low, le-leb g 13 a.g_high, a.prime, le-leb k g a.k_g, le-leb 1 u a.u_low, le-leb u 4096 a.u_high)

-- a geometry that 2, 3 and 6 do not refuse
pub sound_of : (G : Geometry) → Limits G.v G.k → whole G.v G.k ≡ true → sizes_allowed G.k G.g G.u ≡ true → Sound G
unfolding whole
sound_of G l w h =
    let a = allowed_parts G.k G.g G.u h in
    let p = and_both (eqb (r_of G.v G.k * (G.k - 1)) (G.v - 1)) (eqb (b_of G.v G.k * (G.k * (G.k - 1))) (G.v * (G.v - 1))) w in
    record {
      limits = l;
      r_whole = eqb-true (r_of G.v G.k * (G.k - 1)) (G.v - 1) p.0;
      b_whole = eqb-true (b_of G.v G.k * (G.k * (G.k - 1))) (G.v * (G.v - 1)) p.1;
      g_low = a.g_low;
      g_high = a.g_high;
      k_g = a.k_g;
      divisors = prime_enough G.k G.g a.prime a.k_g;
      u_low = a.u_low;
      u_high = a.u_high;
    }
