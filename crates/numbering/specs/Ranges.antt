-- Which labels, diagonals and user units a geometry has: 01, "Design and geometry" and "The two parities". Assumes nothing.
use Rattle.std.specs.Prelude.{ℕ, ◌-◌, ◌≤◌, ◌<◌}
use Rattle.geometry.specs.declared.Geometry.{Geometry}
use Rattle.geometry.specs.Geometry.{tuples_of}
use Rattle.numbering.specs.declared.Digits.{Digits}

-- a label (i,c) of a tuple: "for rows i below g-1" [for 1 ≤ g]
pub record OuterIn (G : Geometry) (t i c : ℕ) : Type 0 where
  pub tuple : t < tuples_of G
  pub row : i < G.g - 1
  pub column : c < G.g

-- a diagonal j of the region at position l of a tuple
pub record InnerIn (G : Geometry) (t l j : ℕ) : Type 0 where
  pub tuple : t < tuples_of G
  pub position : l < G.k
  pub diagonal : j < G.g

-- "label (i,c) at position l of tuple t, .. and l below k-1" [for 1 ≤ k and 1 ≤ g]; m is the number of the data region
pub record UserIn (G : Geometry) (t m i c : ℕ) : Type 0 where
  pub label : OuterIn G t i c
  pub region : m < G.k - 1

-- the digits are those of a user unit
abbrev pub DigitsIn : Geometry → Digits → Type 0
DigitsIn G x = UserIn G x.tuple.0 x.region x.row x.column

-- a number with one more digit in a base of at most 13 fits
pub record Fitting (high m low : ℕ) : Type 0 where
  pub high_high : high ≤ 1100000
  pub m_high : m ≤ 13
  pub low_high : low ≤ 13
