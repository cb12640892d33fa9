-- The refusals of the mapping both ways come exactly as 01 tables them. Assumes nothing.
use Prim.Native.Nat.{ℕ, ◌≤◌}
use mathlib.Core.Path.{◌≡◌}
use mathlib.Core.Logic.{◌⊎◌, inl, inr, ⊎_map}
use mathlib.Core.Bool.{true, ◌||◌}
use mathlib.Core.List.{List}
use lib.Dec.{leb}
use borrow.Author.Tests.{leb-true, le-leb}
use Rattle.counting.proofs.Bools.{or_one, left_or, right_or}
use Rattle.refusal.specs.Refusal.{rule, answer}
use Rattle.refusal.specs.Due.{row, Exact}
use Rattle.refusal.proofs.Exactness.{Fits, zero_fit, fits_last, exact}
use Rattle.geometry.specs.declared.Geometry.{Geometry}
use Rattle.geometry.specs.Geometry.{disks_of, units_of, user_units_of}
use Rattle.sizes.specs.Sizes.{sizes_rules}
use Rattle.sizes.specs.Reasons.{sizes_rows}
use Rattle.sizes.proofs.Reasons.{sizes_fits}
use Rattle.address.specs.Address.{map_rules, role_rules}
use Rattle.address.specs.Reasons.{map_rows, role_rows}

module _ (G : Geometry) (d : List ℕ) (n : ℕ) where
  pub map_fits : Fits (map_rules G d n) (map_rows G d n)
  unfolding map_rules
  map_fits =
      fits_last (sizes_rules G d) (rule 10 (leb (user_units_of G) n) 0) (sizes_rows G d)
      (row 10 (λ (p : ℕ). (p ≡ 0) × (user_units_of G ≤ n))) (sizes_fits G d)
      (λ _. zero_fit 10 (leb (user_units_of G) n) (user_units_of G ≤ n) (leb-true (user_units_of G) n) (le-leb (user_units_of G) n))

  -- "refusals come exactly as tabled": the mapping of a user unit
  pub map_exact : {A : Type 0} (a : A) → Exact (map_rows G d n) (answer (map_rules G d n) a)
  map_exact a = exact (map_rules G d n) (map_rows G d n) a map_fits

module _ (G : Geometry) (d : List ℕ) (x y : ℕ) where
  high_words : (leb (disks_of G) x || leb (units_of G) y) ≡ true → (disks_of G ≤ x) ⊎ (units_of G ≤ y)
  high_words h = ⊎_map (leb-true (disks_of G) x) (leb-true (units_of G) y) (or_one (leb (disks_of G) x) (leb (units_of G) y) h)

  words_high : (disks_of G ≤ x) ⊎ (units_of G ≤ y) → (leb (disks_of G) x || leb (units_of G) y) ≡ true
  words_high (inl h) = left_or (leb (disks_of G) x) (leb (units_of G) y) (le-leb (disks_of G) x h)
  words_high (inr h) = right_or (leb (disks_of G) x) (leb (units_of G) y) (le-leb (units_of G) y h)

  pub role_fits : Fits (role_rules G d x y) (role_rows G d x y)
  unfolding role_rules
  role_fits =
      fits_last (sizes_rules G d) (rule 9 (leb (disks_of G) x || leb (units_of G) y) 0) (sizes_rows G d)
      (row 9 (λ (p : ℕ). (p ≡ 0) × ((disks_of G ≤ x) ⊎ (units_of G ≤ y)))) (sizes_fits G d)
      (λ _. zero_fit 9 (leb (disks_of G) x || leb (units_of G) y) ((disks_of G ≤ x) ⊎ (units_of G ≤ y)) high_words words_high)

  -- "refusals come exactly as tabled": the way back from a disk and unit
  pub role_exact : {A : Type 0} (a : A) → Exact (role_rows G d x y) (answer (role_rules G d x y) a)
  role_exact a = exact (role_rules G d x y) (role_rows G d x y) a role_fits
