-- 01, "Refusal numbers", rows 2 to 5, in words: what holds of a place where the row gives it. Assumes nothing.
use Rattle.std.specs.Prelude.{ℕ, ◌+◌, ◌-◌, ◌*◌, ◌<◌, ◌≤◌, ◌≡◌, ◌⊎◌, List, [], ◌∷◌, length}
use Rattle.refusal.specs.Due.{Row, row}
use Rattle.geometry.specs.Geometry.{b_of}
use Rattle.design.specs.Design.{group_at, OneRow}

-- "v or k beyond its limits": v from 2 to 91, k from 2 to 10 and at most v
abbrev pub BeyondLimits : ℕ → ℕ → Type 0
BeyondLimits v k = (v < 2) ⊎ ((91 < v) ⊎ ((k < 2) ⊎ ((10 < k) ⊎ (v < k))))

-- "r or b not whole, or list length not b·k" [v and k within their limits]
abbrev pub NotWhole : ℕ → ℕ → List ℕ → Type 0
NotWhole v k d =
    (((r : ℕ) → r * (k - 1) ≡ v - 1 → ⊥))
    ⊎ ((((b : ℕ) → b * (k * (k - 1)) ≡ v * (v - 1) → ⊥))
    ⊎ ((b : ℕ) × (b * (k * (k - 1)) ≡ v * (v - 1)) × (length d ≡ b * k → ⊥)))

-- row t has "a group number of v or more", or is "not ascending"
abbrev pub BadRow : ℕ → ℕ → List ℕ → ℕ → Type 0
BadRow v k d t =
    ((l : ℕ) × (l < k) × (v ≤ group_at k d t l))
    ⊎ ((l : ℕ) × (l + 1 < k) × (group_at k d t (l + 1) ≤ group_at k d t l))

-- "first such row"
abbrev pub FirstBadRow : ℕ → ℕ → List ℕ → ℕ → Type 0
FirstBadRow v k d p = (p < b_of v k) × BadRow v k d p × ((q : ℕ) → q < p → BadRow v k d q → ⊥)

-- a<c is such a pair: "a pair a<b not in exactly one row"
abbrev pub BadPair : ℕ → ℕ → List ℕ → ℕ → ℕ → Type 0
BadPair v k d a c = (a < c) × (c < v) × (OneRow k (b_of v k) d a c → ⊥)

-- "lowest a then b"
abbrev pub FirstBadPair : ℕ → ℕ → List ℕ → ℕ → Type 0
FirstBadPair v k d p =
    (a : ℕ) × (c : ℕ) × (p ≡ a * v + c) × BadPair v k d a c
    × ((x y : ℕ) → (x < a) ⊎ ((x ≡ a) × (y < c)) → BadPair v k d x y → ⊥)

-- rows 2 to 5
abbrev pub design_rows : ℕ → ℕ → List ℕ → List Row
design_rows v k d =
    row 2 (λ (p : ℕ). (p ≡ 0) × BeyondLimits v k)
    ∷ row 3 (λ (p : ℕ). (p ≡ 0) × NotWhole v k d)
    ∷ row 4 (FirstBadRow v k d)
    ∷ row 5 (FirstBadPair v k d)
    ∷ []
