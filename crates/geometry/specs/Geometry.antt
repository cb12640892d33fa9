-- 01, "Design and geometry": the limits and the derived numbers of a geometry. v groups, tuples of k groups, groups of g
-- disks, units of u bytes. A division's result is meant only where it is whole, which is said by multiplication.
-- Assumes nothing.
use Rattle.std.specs.Prelude.{ℕ, ◌+◌, ◌-◌, ◌*◌, ◌/◌, ◌%◌, ◌≤◌, ◌≡◌, Bool, true, not, ◌&&◌, ◌||◌, ltb, leb, eqb}
use Rattle.counting.specs.Counting.{any_below}
use Rattle.geometry.specs.declared.Geometry.{Geometry}

-- "v runs from 2 to 91, k from 2 to 10, and k is at most v"
unfoldable pub beyond_limits : ℕ → ℕ → Bool
beyond_limits v k = ltb v 2 || ltb 91 v || ltb k 2 || ltb 10 k || ltb v k

-- "So r = (v-1)/(k-1)" [for 1 ≤ v and 2 ≤ k]
unfoldable pub r_of : ℕ → ℕ → ℕ
r_of v k = (v - 1) / (k - 1)

-- "and b = v(v-1)/(k(k-1))" [for 1 ≤ v and 2 ≤ k]
unfoldable pub b_of : ℕ → ℕ → ℕ
b_of v k = v * (v - 1) / (k * (k - 1))

-- r and b are whole: v - 1 = r(k - 1) and v(v - 1) = b·k(k - 1) [for 1 ≤ v and 2 ≤ k]
unfoldable pub whole : ℕ → ℕ → Bool
whole v k = eqb (r_of v k * (k - 1)) (v - 1) && eqb (b_of v k * (k * (k - 1))) (v * (v - 1))

-- no e with 2 ≤ e < n divides g [% by e from 2 on]
unfoldable pub no_divisor_below : ℕ → ℕ → Bool
no_divisor_below n g = not (any_below (λ (e : ℕ). leb 2 e && eqb (g % e) 0) n)

-- "g is a prime from 2 to 13 and at least k. A unit has u bytes, 1 to 4,096."
unfoldable pub sizes_allowed : ℕ → ℕ → ℕ → Bool
sizes_allowed k g u = leb 2 g && leb g 13 && no_divisor_below g g && leb k g && leb 1 u && leb u 4096

-- "A group has g disks, so there are v·g"
unfoldable pub disks_of : Geometry → ℕ
disks_of G = G.v * G.g

-- "Each disk has r parts"
unfoldable pub parts_of : Geometry → ℕ
parts_of G = r_of G.v G.k

-- "of g units": the units of one disk
unfoldable pub units_of : Geometry → ℕ
units_of G = r_of G.v G.k * G.g

-- the tuples, b
unfoldable pub tuples_of : Geometry → ℕ
tuples_of G = b_of G.v G.k

-- "There are b·(k-1)·(g-1)·g" user units [for 2 ≤ k and 2 ≤ g]
unfoldable pub user_units_of : Geometry → ℕ
user_units_of G = b_of G.v G.k * (G.k - 1) * (G.g - 1) * G.g

-- the sets of one tuple: (g-1)g outer and k·g inner [for 2 ≤ g]
unfoldable pub tuple_sets_of : Geometry → ℕ
tuple_sets_of G = (G.g - 1) * G.g + G.k * G.g

-- the sets of all tuples
unfoldable pub sets_of : Geometry → ℕ
sets_of G = b_of G.v G.k * tuple_sets_of G

-- "v·g·r·g·u bytes"
unfoldable pub bytes_of : Geometry → ℕ
bytes_of G = G.v * G.g * r_of G.v G.k * G.g * G.u

-- v and k within their limits
pub record Limits (v k : ℕ) : Type 0 where
  pub v_low : 2 ≤ v
  pub v_high : v ≤ 91
  pub k_low : 2 ≤ k
  pub k_high : k ≤ 10
  pub k_v : k ≤ v

-- what is known of a geometry that 2, 3 and 6 do not refuse; of its prime g only this is kept, no e with 2 ≤ e < k
-- divides g (02, Ask 5) [the differences by 1 from limits]
pub record Sound (G : Geometry) : Type 0 where
  pub limits : Limits G.v G.k
  pub r_whole : r_of G.v G.k * (G.k - 1) ≡ G.v - 1
  pub b_whole : b_of G.v G.k * (G.k * (G.k - 1)) ≡ G.v * (G.v - 1)
  pub g_low : 2 ≤ G.g
  pub g_high : G.g ≤ 13
  pub k_g : G.k ≤ G.g
  pub divisors : no_divisor_below G.k G.g ≡ true
  pub u_low : 1 ≤ G.u
  pub u_high : G.u ≤ 4096
