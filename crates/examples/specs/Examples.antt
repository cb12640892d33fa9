-- 01, "Proved examples": the numbered examples in one table, of the very answers that the calls' contracts cite, the whole
-- chain of refusals included. "Design F is document 000's equation 1 .. with g = 3: 21 disks of 9 units, 84 user units, 105
-- sets. Places are disk/unit: data, outer parity, inner of data, inner of outer." Assumes nothing.
use Rattle.std.specs.Prelude.{ℕ, ◌≡◌, List, [], ◌∷◌, ◌++◌, take, length, replicate}
use Rattle.refusal.specs.Refusal.{Outcome, refused, accepted, answer, verdict}
use Rattle.geometry.specs.declared.Geometry.{Geometry}
use Rattle.checking.specs.Rules.{design_rules}
use Rattle.sizes.specs.declared.Sizes.{Sizes}
use Rattle.sizes.specs.Sizes.{sizes_rules, sizes_of}
use Rattle.layout.specs.declared.Place.{Place}
use Rattle.layout.specs.declared.Four.{Four}
use Rattle.layout.specs.Places.{place, four_of}
use Rattle.address.specs.Address.{map_rules}
use Rattle.rebuilding.specs.Rebuild.{restored_of, rebuild_rules}
use Rattle.equation1.specs.F.{F, shelf}

-- what the map answers for user unit n of F
abbrev pub map_f : ℕ → Outcome Four
map_f n = answer (map_rules (shelf 3) F n) (four_of (shelf 3) F n)

-- what the sizes call answers
abbrev pub sizes_at : Geometry → List ℕ → Outcome Sizes
sizes_at G d = answer (sizes_rules G d) (sizes_of G)

abbrev pub four : (w x y z : Place) → Outcome Four
four w x y z = accepted (record { user = w; outer = x; inner = y; both = z })

-- F with its last row 1 4 6
abbrev pub broken_f : List ℕ
broken_f = take 18 F ++ (1 ∷ 4 ∷ 6 ∷ [])

-- example 12's geometry
abbrev pub smallest : Geometry
smallest = record { v = 2; k = 2; g = 2; u = 1 }

-- what the rebuild answers for F with an array of so many bytes, where these are the marks of the first disks and no other disk
-- is lost
abbrev pub rebuild_f : (first : List ℕ) → (bytes : ℕ) → Outcome ℕ
rebuild_f first bytes =
    answer (rebuild_rules (shelf 3) F bytes (first ++ replicate 16 0)) (restored_of (shelf 3) F (first ++ replicate 16 0))

-- the table; a field is an example's number in 01
pub record Examples : Type 0 where
  pub sizes_of_F :
      sizes_at (shelf 3) F
      ≡ accepted (record { parts = 3; tuples = 7; disks = 21; units = 9; users = 84; sets = 105; bytes = 189 })
  pub example_1 : map_f 0 ≡ four (place 0 0) (place 18 0) (place 2 2) (place 20 2)
  pub example_2 : map_f 4 ≡ four (place 1 1) (place 18 1) (place 2 2) (place 19 2)
  pub example_3 : map_f 11 ≡ four (place 6 1) (place 19 1) (place 7 2) (place 20 2)
  pub example_4 : map_f 83 ≡ four (place 15 7) (place 19 7) (place 16 8) (place 20 8)
  pub example_5 : map_f 84 ≡ refused 10 0
  -- for all bytes of the 21 disks
  pub example_6 : (a : List ℕ) → length a ≡ 189 → rebuild_f (0 ∷ 0 ∷ 0 ∷ 0 ∷ 0 ∷ []) (length a) ≡ accepted 0
  pub example_7 : (a : List ℕ) → length a ≡ 189 → rebuild_f (1 ∷ 1 ∷ 1 ∷ 1 ∷ 0 ∷ []) (length a) ≡ accepted 36
  pub example_8 : (a : List ℕ) → length a ≡ 189 → rebuild_f (1 ∷ 1 ∷ 0 ∷ 1 ∷ 1 ∷ []) (length a) ≡ refused 13 1
  pub example_9 : verdict (design_rules 7 3 broken_f) ≡ refused 5 11
  pub example_10 : (d : List ℕ) → verdict (design_rules 51 8 d) ≡ refused 3 0
  pub example_11 : sizes_at (shelf 9) F ≡ refused 6 0
  pub example_12 :
      sizes_at smallest (0 ∷ 1 ∷ [])
      ≡ accepted (record { parts = 1; tuples = 1; disks = 4; units = 2; users = 2; sets = 6; bytes = 8 })
