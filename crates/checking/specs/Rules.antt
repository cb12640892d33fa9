-- 01, "Refusal numbers", rows 2 to 5: the tests of the design check, in their order, with their places. Assumes nothing.
use Rattle.std.specs.Prelude.{ℕ, ◌+◌, ◌-◌, ◌*◌, ◌/◌, ◌%◌, Bool, not, ◌&&◌, ◌||◌, List, [], ◌∷◌, length, ltb, leb, eqb}
use Rattle.counting.specs.Counting.{count_below, lowest, any_below}
use Rattle.refusal.specs.Refusal.{Rule, rule}
use Rattle.geometry.specs.Geometry.{beyond_limits, whole, b_of}
use Rattle.design.specs.Design.{group_at, names}

-- "a group number of v or more, or a row not ascending" [for 1 ≤ k]
unfoldable pub row_bad : ℕ → ℕ → List ℕ → ℕ → Bool
row_bad v k d t =
    any_below (λ (l : ℕ). leb v (group_at k d t l)) k
    || any_below (λ (l : ℕ). leb (group_at k d t (l + 1)) (group_at k d t l)) (k - 1)

-- in how many of the b rows groups a and c stand together
unfoldable pub rows_with : ℕ → ℕ → List ℕ → ℕ → ℕ → ℕ
rows_with k b d a c = count_below (λ (t : ℕ). names k d a t && names k d c t) b

-- "a pair a<b not in exactly one row", the pair given as a·v+b [for 1 ≤ v]
unfoldable pub pair_bad : ℕ → ℕ → List ℕ → ℕ → Bool
pair_bad v k d m = ltb (m / v) (m % v) && not (eqb (rows_with k (b_of v k) d (m / v) (m % v)) 1)

-- rows 2 to 5
unfoldable pub design_rules : ℕ → ℕ → List ℕ → List Rule
design_rules v k d =
    rule 2 (beyond_limits v k) 0
    ∷ rule 3 (not (whole v k && eqb (length d) (b_of v k * k))) 0
    ∷ rule 4 (any_below (row_bad v k d) (b_of v k)) (lowest (row_bad v k d) (b_of v k))
    ∷ rule 5 (any_below (pair_bad v k d) (v * v)) (lowest (pair_bad v k d) (v * v))
    ∷ []
