-- 01, "Held difference sets": the seven sets of 000's table 1, and the design that each gives. Assumes nothing.
use Rattle.std.specs.Prelude.{ℕ, ◌+◌, ◌*◌, ◌/◌, ◌%◌, Bool, cond, not, List, [], ◌∷◌, get_or, length, eqb}
use Rattle.counting.specs.Counting.{any_below, nth_below}
use Rattle.counting.specs.Lists.{list_of}
use Rattle.refusal.specs.Refusal.{Rule, rule}
use Rattle.geometry.specs.Geometry.{b_of}

-- "a v and its set"
pub record Held : Type 0 where
  pub v : ℕ
  pub set : List ℕ

abbrev pub held : ℕ → List ℕ → Held
held v s = record { v = v; set = s }

-- "The source prints 51 for the fifth; that fails v-1 = r(k-1), and 57 is right."
abbrev pub table : List Held
table =
    held 7 (0 ∷ 1 ∷ 3 ∷ [])
    ∷ held 13 (0 ∷ 1 ∷ 3 ∷ 9 ∷ [])
    ∷ held 21 (0 ∷ 1 ∷ 4 ∷ 14 ∷ 16 ∷ [])
    ∷ held 31 (0 ∷ 1 ∷ 3 ∷ 8 ∷ 12 ∷ 18 ∷ [])
    ∷ held 57 (0 ∷ 1 ∷ 3 ∷ 13 ∷ 32 ∷ 36 ∷ 43 ∷ 52 ∷ [])
    ∷ held 73 (0 ∷ 1 ∷ 3 ∷ 7 ∷ 15 ∷ 31 ∷ 36 ∷ 54 ∷ 63 ∷ [])
    ∷ held 91 (0 ∷ 1 ∷ 3 ∷ 9 ∷ 27 ∷ 49 ∷ 56 ∷ 61 ∷ 77 ∷ 81 ∷ [])
    ∷ []

-- the set held for v, and none where no row of the table has v
abbrev pub lookup : List Held → ℕ → List ℕ
lookup [] v = []
lookup (x ∷ xs) v = cond (eqb v x.v) x.set (lookup xs v)

unfoldable pub set_for : ℕ → List ℕ
set_for v = lookup table v

-- x is a member of the set with i added to each member modulo v [for 1 ≤ v]
unfoldable pub shifted : (v : ℕ) → List ℕ → (i x : ℕ) → Bool
shifted v s i x = any_below (λ (j : ℕ). eqb ((get_or s j 0 + i) % v) x) (length s)

-- "Row i is the set with i added to each member modulo v, sorted upwards": the l-th lowest group of row i
unfoldable pub held_group : (v : ℕ) → List ℕ → (i l : ℕ) → ℕ
held_group v s i l = nth_below (shifted v s i) v l

-- the numbers of the design of v, row after row [its set is not empty]
unfoldable pub held_design : ℕ → List ℕ
held_design v =
    list_of (λ (e : ℕ). held_group v (set_for v) (e / length (set_for v)) (e % length (set_for v)))
    (b_of v (length (set_for v)) * length (set_for v))

-- "no set held for v" is 1; "the list's length must be exactly b·k, else refusal 3"
unfoldable pub fill_rules : (v n : ℕ) → List Rule
fill_rules v n =
    rule 1 (eqb (length (set_for v)) 0) 0
    ∷ rule 3 (not (eqb n (b_of v (length (set_for v)) * length (set_for v)))) 0
    ∷ []
