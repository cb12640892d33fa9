-- The one fact of number theory that the layout needs of g and k (02, Ask 5): steps of d < k through the columns of a
-- group of g disks meet no column twice, from this alone, no e with 2 ≤ e < k divides g. No greatest common divisor is taken:
-- what g divides after d it divides after g mod d, which is smaller. Assumes nothing.
use Prim.Native.Nat.{ℕ, zero, suc, ◌+◌, ◌-◌, ◌*◌, ◌/◌, ◌%◌, ◌≤◌, ◌<◌, ◌∣◌}
use mathlib.Core.Path.{◌≡◌, refl, sym, ap, ◌∙◌}
use native.Mathlib.Nat.{mul-one, mul_comm, mul_left_comm, mul-add, le_of_sub-eq-zero, emod_pos_of_not-dvd, mod-eq-zero_of_dvd, mul-sub, dvd-mul_left, dvd-mul_left_of_dvd, dvd-add_iff_right, dvd-sub, le_of_dvd, mod-lt, div-add-mod'}
use native.Mathlib.Omega.{arith}
use Rattle.geometry.specs.Theorems.{MultiplesDiffer}
use Rattle.geometry.proofs.Laws.{NoDivisor, no_divisor}

-- if g divides m·d, it divides m·(g mod d)
dvd_rest : (g m d : ℕ) → g ∣ m * d → g ∣ m * (g % d)
dvd_rest g m d h = (dvd-add_iff_right g (dvd-mul_left_of_dvd g h (g / d))).1 whole
  where
    split : (g / d) * (m * d) + m * (g % d) ≡ m * g
    split = ap (λ (x : ℕ). x + m * (g % d)) (mul_left_comm (g / d) m d) ∙ sym (mul-add m (g / d * d) (g % d)) ∙ ap (λ (x : ℕ). m * x) (div-add-mod' g d)

    whole : g ∣ (g / d) * (m * d) + m * (g % d)
    whole = rw split (dvd-mul_left g m)

-- so d can be cancelled: by recursion on a bound n of d
dvd_cancel : (n g k m d : ℕ) → NoDivisor k g → 0 < d → d < k → d ≤ n → g ∣ m * d → g ∣ m
dvd_cancel zero g k m d p h₀ h₁ h₂ h = absurd (omega arith)
dvd_cancel (suc n) g k m zero p h₀ h₁ h₂ h = absurd (omega arith)
dvd_cancel (suc n) g k m (suc zero) p h₀ h₁ h₂ h = rw mul-one at h
dvd_cancel (suc n) g k m (suc (suc d)) p h₀ h₁ h₂ h =
    dvd_cancel n g k m (g % suc (suc d)) p rest_pos (omega (arith, rest_low)) (omega (arith, rest_low)) (dvd_rest g m (suc (suc d)) h)
  where
    rest_low : g % suc (suc d) < suc (suc d)
    rest_low = mod-lt g (omega arith)

    rest_pos : 0 < g % suc (suc d)
    rest_pos = emod_pos_of_not-dvd (suc (suc d)) (λ (w : suc (suc d) ∣ g). p (suc (suc d)) h₁ (omega arith) (mod-eq-zero_of_dvd (suc (suc d)) w))

sub_mul : (a b c : ℕ) → (a - b) * c ≡ a * c - b * c
sub_mul a b c = rw (mul_comm (a - b) c, mul_comm a c, mul_comm b c, mul-sub)

-- g divides the difference of what leaves the same rest
dvd_difference : (g a b : ℕ) → a % g ≡ b % g → g ∣ b - a
dvd_difference g a b e = rw same (dvd-sub g (dvd-mul_left g (b / g)) (dvd-mul_left g (a / g)))
  where
    same : b - a ≡ b / g * g - a / g * g
    same = omega (arith, div-add-mod' a g, div-add-mod' b g)

-- the higher of two is no other: what g divides is at least g, or 0
not_above : (g k d i j : ℕ) → NoDivisor k g → 0 < d → d < k → j < g → (i * d) % g ≡ (j * d) % g → j ≤ i
not_above g k d i j p h₀ h₁ hj e = le_of_sub-eq-zero (none (j - i) (omega arith) divides)
  where
    divides : g ∣ j - i
    divides = dvd_cancel d g k (j - i) d p h₀ h₁ (omega arith) (rw (sub_mul j i d) (dvd_difference g (i * d) (j * d) e))

    none : (n : ℕ) → n < g → g ∣ n → n ≡ 0
    none zero l w = refl
    none (suc n) l w = absurd (omega (arith, le_of_dvd (omega arith) w))

pub multiples_differ : MultiplesDiffer
multiples_differ g k p d h₀ h₁ i j hi hj e =
    omega (arith, not_above g k d i j (no_divisor k g p) h₀ h₁ hj e, not_above g k d j i (no_divisor k g p) h₀ h₁ hi (sym e))
