-- 01, "Refusal numbers", rows 7, 8, 10 and 11 in words. Assumes nothing.
use Rattle.std.specs.Prelude.{ℕ, ◌+◌, ◌<◌, ◌≤◌, ◌≡◌, ◌⊎◌, List, [], ◌∷◌, ◌++◌, get_or, length}
use Rattle.refusal.specs.Due.{Row, row}
use Rattle.geometry.specs.declared.Geometry.{Geometry}
use Rattle.geometry.specs.Geometry.{disks_of, user_units_of, bytes_of}
use Rattle.sizes.specs.Reasons.{sizes_rows}

-- "array or marks of another length, or array above the limit": "at most 1,073,741,824"
abbrev pub OtherLength : Geometry → (bytes : ℕ) → (marks : List ℕ) → Type 0
OtherLength G bytes marks =
    (bytes ≡ bytes_of G → ⊥) ⊎ ((length marks ≡ disks_of G → ⊥) ⊎ (1073741824 < bytes_of G))

-- "a mark above 1", "lowest disk"
abbrev pub LowestHigh : List ℕ → ℕ → Type 0
LowestHigh marks p =
    (p < length marks) × (1 < get_or marks p 0) × ((q : ℕ) → q < p → 1 < get_or marks q 0 → ⊥)

-- rows 2 to 8
abbrev pub array_rows : Geometry → List ℕ → (bytes : ℕ) → (marks : List ℕ) → List Row
array_rows G d bytes marks =
    sizes_rows G d
    ++ (row 7 (λ (p : ℕ). (p ≡ 0) × OtherLength G bytes marks) ∷ row 8 (LowestHigh marks) ∷ [])

-- "user unit number too high"; "range leaves the unit: its offset plus its length is above u"
abbrev pub range_rows : Geometry → (m o n : ℕ) → List Row
range_rows G m o n =
    row 10 (λ (p : ℕ). (p ≡ 0) × (user_units_of G ≤ m)) ∷ row 11 (λ (p : ℕ). (p ≡ 0) × (G.u < o + n)) ∷ []
