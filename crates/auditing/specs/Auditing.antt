-- 01, "Calls" (audit) and "Refusal numbers", row 7 for the audit. Assumes nothing.
use Rattle.std.specs.Prelude.{ℕ, not, List, [], ◌∷◌, ◌++◌}
use Rattle.refusal.specs.Refusal.{Rule, rule}
use Rattle.geometry.specs.declared.Geometry.{Geometry}
use Rattle.sizes.specs.Sizes.{sizes_rules}
use Rattle.array.specs.Rules.{array_fits}
use Rattle.finding.specs.declared.Found.{Found}

-- rows 2 to 7; it is lent no marks: "of 7 it tests the array, and 8 doesn't apply"
unfoldable pub audit_rules : Geometry → (design : List ℕ) → (bytes : ℕ) → List Rule
audit_rules G d bytes = sizes_rules G d ++ (rule 7 (not (array_fits G bytes)) 0 ∷ [])
