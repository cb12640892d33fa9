-- 01, "Refusal numbers": those that no numbered example gives, each by its number and at its place, and both sides of the limits.
-- (The printer's theorems name 1, the history by numbers has 11 and 12, the plan's example 14.) Assumes nothing.
use Rattle.std.specs.Prelude.{ℕ, ◌≡◌, true, false, List, [], ◌∷◌, ◌++◌, take, replicate}
use Rattle.refusal.specs.Refusal.{Outcome, refused, accepted, verdict}
use Rattle.geometry.specs.declared.Geometry.{Geometry}
use Rattle.geometry.specs.Geometry.{beyond_limits, sizes_allowed}
use Rattle.checking.specs.Rules.{design_rules}
use Rattle.address.specs.Address.{role_rules}
use Rattle.array.specs.Rules.{array_fits, array_rules}
use Rattle.equation1.specs.F.{F, shelf}

-- what every call on an array of F answers first, for so many bytes and these marks
abbrev pub array_f : (bytes : ℕ) → (marks : List ℕ) → Outcome (Unit {0})
array_f bytes marks = verdict (array_rules (shelf 3) F bytes marks)

-- F with its last row 1 5 5
abbrev pub flat_f : List ℕ
flat_f = take 18 F ++ (1 ∷ 5 ∷ 5 ∷ [])

abbrev pub sized : (v k g u : ℕ) → Geometry
sized v k g u = record { v = v; k = k; g = g; u = u }

pub record Refusals : Type 0 where
  pub two : verdict (design_rules 92 2 []) ≡ refused 2 0
  pub four : verdict (design_rules 7 3 flat_f) ≡ refused 4 6
  pub seven_array : array_f 188 (replicate 21 0) ≡ refused 7 0
  pub seven_marks : array_f 189 (replicate 22 0) ≡ refused 7 0
  pub eight : array_f 189 (replicate 5 1 ++ (2 ∷ replicate 15 3)) ≡ refused 8 5
  pub nine_disk : verdict (role_rules (shelf 3) F 21 0) ≡ refused 9 0
  pub nine_unit : verdict (role_rules (shelf 3) F 20 9) ≡ refused 9 0
  pub none : array_f 189 (replicate 21 1) ≡ accepted tt

-- "v runs from 2 to 91, k from 2 to 10"; "g is a prime from 2 to 13"; "u bytes, 1 to 4,096"; "at most 1,073,741,824", which no sizes
-- have: these come nearest from below and from above
pub record Limits : Type 0 where
  pub most : beyond_limits 91 10 ≡ false
  pub v_high : beyond_limits 92 10 ≡ true
  pub k_high : beyond_limits 91 11 ≡ true
  pub least : beyond_limits 2 2 ≡ false
  pub v_low : beyond_limits 1 1 ≡ true
  pub k_low : beyond_limits 2 1 ≡ true
  pub g_most : sizes_allowed 10 13 4096 ≡ true
  pub g_high : sizes_allowed 10 17 4096 ≡ false
  pub u_high : sizes_allowed 10 13 4097 ≡ false
  pub u_least : sizes_allowed 2 2 1 ≡ true
  pub u_low : sizes_allowed 2 2 0 ≡ false
  pub within : array_fits (sized 66 2 13 1481) 1073739810 ≡ true
  pub above : array_fits (sized 50 2 11 3622) 1073741900 ≡ false
