-- 01, "Calls" (audit): the sets that don't XOR to zero. Assumes nothing.
use Rattle.std.specs.Prelude.{ℕ, not, List, unwrap_or}
use Rattle.counting.specs.Counting.{count_below, first_below}
use Rattle.geometry.specs.declared.Geometry.{Geometry}
use Rattle.geometry.specs.Geometry.{sets_of}
use Rattle.consistent.specs.Consistent.{set_zero}
use Rattle.finding.specs.declared.Found.{Found}

-- "how many sets don't XOR to zero", of the first n
unfoldable pub bad_below : Geometry → List ℕ → List ℕ → (n : ℕ) → ℕ
bad_below G d a n = count_below (λ (s : ℕ). not (set_zero G d a s)) n

-- "and the lowest such number, 0 if none", of the first n
unfoldable pub lowest_bad : Geometry → List ℕ → List ℕ → (n : ℕ) → ℕ
lowest_bad G d a n = unwrap_or (first_below (λ (s : ℕ). not (set_zero G d a s)) n) 0

-- both, of the first n sets
unfoldable pub found_below : Geometry → List ℕ → List ℕ → (n : ℕ) → Found
found_below G d a n = record { bad = bad_below G d a n; lowest = lowest_bad G d a n }

-- what the audit hands back, of all sets
unfoldable pub audit_of : Geometry → List ℕ → List ℕ → Found
audit_of G d a = found_below G d a (sets_of G)
