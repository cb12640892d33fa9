-- 01, "Refusal numbers", the rows of the audit in words: 2 to 7. Assumes nothing.
use Rattle.std.specs.Prelude.{ℕ, ◌<◌, ◌≡◌, ◌⊎◌, List, [], ◌∷◌, ◌++◌}
use Rattle.refusal.specs.Due.{Row, row}
use Rattle.geometry.specs.declared.Geometry.{Geometry}
use Rattle.geometry.specs.Geometry.{bytes_of}
use Rattle.sizes.specs.Reasons.{sizes_rows}

-- "Audit is lent no marks: of 7 it tests the array": "array .. of another length, or array above the limit"
abbrev pub audit_rows : Geometry → List ℕ → (bytes : ℕ) → List Row
audit_rows G d bytes =
    sizes_rows G d
    ++ (row 7 (λ (p : ℕ). (p ≡ 0) × ((bytes ≡ bytes_of G → ⊥) ⊎ (1073741824 < bytes_of G))) ∷ [])
