-- What is proved of the numbers of the user units and of the sets, each under its sentence of 01: the statements alone. Assumes
-- nothing.
use Rattle.std.specs.Prelude.{ℕ, ◌-◌, ◌<◌, ◌≡◌, ◌⊎◌}
use Rattle.geometry.specs.declared.Geometry.{Geometry}
use Rattle.geometry.specs.Geometry.{Sound, user_units_of, sets_of}
use Rattle.numbering.specs.Positions.{parity_position, data_position, data_number}
use Rattle.numbering.specs.Numbering.{user_number, user_tuple, user_region, user_row, user_column}
use Rattle.numbering.specs.Numbering.{outer_number, inner_number}
use Rattle.numbering.specs.Ranges.{OuterIn, InnerIn, UserIn}

-- "The unit at position k-1 is its parity"; of the user units "l below k-1": a tuple's last region is the parity's, and the
-- data regions before it are numbered by their positions [for 1 ≤ k]
pub record LastIsParity (G : Geometry) (t : ℕ) : Type 0 where
  pub parity : parity_position G t ≡ G.k - 1
  pub position : (m : ℕ) → m < G.k - 1 → data_position G t m ≡ m
  pub number : (l : ℕ) → l < G.k - 1 → data_number G t l ≡ l

abbrev pub TheLastRegionIsTheParity : Type 0
TheLastRegionIsTheParity = (G : Geometry) (t : ℕ) → LastIsParity G t

-- "There are b·(k-1)·(g-1)·g" user units, numbered without a gap: a number below the count has its digits, and digits in
-- range have their number
pub record UserNumbers (G : Geometry) : Type 0 where
  pub digits : (n : ℕ) → n < user_units_of G → UserIn G (user_tuple G n) (user_region G n) (user_row G n) (user_column G n)
  pub number :
      (n : ℕ) → user_number G (user_tuple G n) (user_region G n) (user_row G n) (user_column G n) ≡ n
  pub low : (t m i c : ℕ) → UserIn G t m i c → user_number G t m i c < user_units_of G
  pub tuple : (t m i c : ℕ) → UserIn G t m i c → user_tuple G (user_number G t m i c) ≡ t
  pub region : (t m i c : ℕ) → UserIn G t m i c → user_region G (user_number G t m i c) ≡ m
  pub row : (t m i c : ℕ) → UserIn G t m i c → user_row G (user_number G t m i c) ≡ i
  pub column : (t m i c : ℕ) → UserIn G t m i c → user_column G (user_number G t m i c) ≡ c

abbrev pub UserUnitsAreNumbered : Type 0
UserUnitsAreNumbered = (G : Geometry) → Sound G → UserNumbers G

-- the number is a set's
abbrev pub ASet : Geometry → ℕ → Type 0
ASet G n =
    ((t : ℕ) × (i : ℕ) × (c : ℕ) × OuterIn G t i c × (n ≡ outer_number G t i c))
    ⊎ ((t : ℕ) × (l : ℕ) × (j : ℕ) × InnerIn G t l j × (n ≡ inner_number G t l j))

-- "numbers every set, t·((g-1)g + kg) plus i·g+c for outer, plus (g-1)g + l·g + j for inner": the numbers are those below
-- the count of sets, and no two sets share one
pub record SetNumbers (G : Geometry) : Type 0 where
  pub outer_low : (t i c : ℕ) → OuterIn G t i c → outer_number G t i c < sets_of G
  pub inner_low : (t l j : ℕ) → InnerIn G t l j → inner_number G t l j < sets_of G
  pub outer_only :
      (t i c s a e : ℕ) → OuterIn G t i c → OuterIn G s a e → outer_number G t i c ≡ outer_number G s a e →
      (t ≡ s) × (i ≡ a) × (c ≡ e)
  pub inner_only :
      (t l j s m e : ℕ) → InnerIn G t l j → InnerIn G s m e → inner_number G t l j ≡ inner_number G s m e →
      (t ≡ s) × (l ≡ m) × (j ≡ e)
  pub apart : (t i c s l j : ℕ) → OuterIn G t i c → InnerIn G s l j → outer_number G t i c ≡ inner_number G s l j → ⊥
  pub every : (n : ℕ) → n < sets_of G → ASet G n

abbrev pub SetsAreNumbered : Type 0
SetsAreNumbered = (G : Geometry) → Sound G → SetNumbers G
