-- 01, "The two parities" and "Calls" (audit): the sets by number, and what it means that every set XORs to zero.
-- Assumes nothing.
use Rattle.std.specs.Prelude.{ℕ, ◌-◌, ◌*◌, ◌/◌, ◌%◌, ◌<◌, ◌≡◌, Bool, true, cond, List, ltb}
use Rattle.counting.specs.Lists.{list_of}
use Rattle.geometry.specs.declared.Geometry.{Geometry}
use Rattle.geometry.specs.Geometry.{tuple_sets_of, sets_of}
use Rattle.cells.specs.Sets.{outer_member, inner_member}
use Rattle.leaves.specs.Bytes.{zero_sum}
use Rattle.array.specs.Array.{cell_start}

-- where the units of the outer set (t,i,c) begin, by position, and those of the inner set (t,l,j), by row
unfoldable pub outer_starts : Geometry → List ℕ → (t i c : ℕ) → List ℕ
outer_starts G d t i c = list_of (λ (l : ℕ). cell_start G d (outer_member G t i c l)) G.k

unfoldable pub inner_starts : Geometry → List ℕ → (t l j : ℕ) → List ℕ
inner_starts G d t l j = list_of (λ (i : ℕ). cell_start G d (inner_member G t l j i)) G.g

-- the set with number x within tuple t: "i·g+c for outer, plus (g-1)g + l·g + j for inner" [for 1 ≤ g]
unfoldable pub tuple_set_starts : Geometry → List ℕ → (t x : ℕ) → List ℕ
tuple_set_starts G d t x =
    cond (ltb x ((G.g - 1) * G.g)) (outer_starts G d t (x / G.g) (x % G.g))
    (inner_starts G d t ((x - (G.g - 1) * G.g) / G.g) ((x - (G.g - 1) * G.g) % G.g))

-- set s: "t·((g-1)g + kg) plus" its number within tuple t [for 1 ≤ g]
unfoldable pub set_starts : Geometry → List ℕ → (s : ℕ) → List ℕ
set_starts G d s = tuple_set_starts G d (s / tuple_sets_of G) (s % tuple_sets_of G)

-- set s XORs to zero, byte by byte
unfoldable pub set_zero : Geometry → List ℕ → List ℕ → (s : ℕ) → Bool
set_zero G d a s = zero_sum a (set_starts G d s) G.u

-- every set XORs to zero
abbrev pub Consistent : Geometry → List ℕ → List ℕ → Type 0
Consistent G d a = (s : ℕ) → s < sets_of G → set_zero G d a s ≡ true
