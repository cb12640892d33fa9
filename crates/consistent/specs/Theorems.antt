-- What is proved of consistent arrays, each under its sentence of 01: the statements alone. Assumes nothing.
use Rattle.std.specs.Prelude.{ℕ, ◌<◌, ◌≡◌, ◌↔◌, List, length}
use Rattle.geometry.specs.declared.Geometry.{Geometry}
use Rattle.geometry.specs.Geometry.{Sound, user_units_of, bytes_of}
use Rattle.design.specs.Design.{Laid}
use Rattle.numbering.specs.Numbering.{outer_number, inner_number}
use Rattle.numbering.specs.Ranges.{OuterIn, InnerIn}
use Rattle.cells.specs.Roles.{user_cell, user_outer}
use Rattle.leaves.specs.Bytes.{run, sum_at}
use Rattle.array.specs.Array.{cell_start, formatted_array}
use Rattle.consistent.specs.Consistent.{outer_starts, inner_starts, set_starts, Consistent}

-- "The unit at position k-1 is its parity, the XOR of the others", for every label; "Row g-1 holds its parity .. the XOR of
-- the others", for every diagonal: the bytes at one offset of a set's units, its parity among them, XOR to zero
pub record BothParities (G : Geometry) (d a : List ℕ) : Type 0 where
  pub outer : (t i c : ℕ) → OuterIn G t i c → (j : ℕ) → j < G.u → sum_at a (outer_starts G d t i c) j ≡ 0
  pub inner : (t l j : ℕ) → InnerIn G t l j → (i : ℕ) → i < G.u → sum_at a (inner_starts G d t l j) i ≡ 0

-- "numbers every set, t·((g-1)g + kg) plus i·g+c for outer, plus (g-1)g + l·g + j for inner": each label's and each diagonal's
-- set is the set of its number
pub record SetsNumbered (G : Geometry) (d : List ℕ) : Type 0 where
  pub outer : (t i c : ℕ) → OuterIn G t i c → set_starts G d (outer_number G t i c) ≡ outer_starts G d t i c
  pub inner : (t l j : ℕ) → InnerIn G t l j → set_starts G d (inner_number G t l j) ≡ inner_starts G d t l j

abbrev pub TheSetsHaveTheirNumbers : Type 0
TheSetsHaveTheirNumbers = (G : Geometry) → Sound G → (d : List ℕ) → SetsNumbered G d

-- so every set is zero exactly if both parities hold
abbrev pub ConsistentMeansBothParities : Type 0
ConsistentMeansBothParities =
    (G : Geometry) → Sound G → (d a : List ℕ) → Consistent G d a ↔ BothParities G d a

-- "all array bytes become zero": every set XORs to zero
abbrev pub AFormattedArrayIsConsistent : Type 0
AFormattedArrayIsConsistent = (G : Geometry) (d : List ℕ) → Consistent G d (formatted_array G)

-- two consistent arrays with the same user bytes are one
abbrev pub AConsistentArrayIsDeterminedByItsUserBytes : Type 0
AConsistentArrayIsDeterminedByItsUserBytes =
    (G : Geometry) (d : List ℕ) → Laid G d → (a b : List ℕ) → length a ≡ bytes_of G → length b ≡ bytes_of G →
    Consistent G d a → Consistent G d b →
    ((m : ℕ) → m < user_units_of G → run a (cell_start G d (user_cell G m)) G.u ≡ run b (cell_start G d (user_cell G m)) G.u) →
    a ≡ b

-- "k = 2 is the complete graph ..; its outer parity is then a copy"
abbrev pub AtK2TheOuterParityIsACopy : Type 0
AtK2TheOuterParityIsACopy =
    (G : Geometry) (d : List ℕ) → Laid G d → G.k ≡ 2 → (a : List ℕ) → length a ≡ bytes_of G → Consistent G d a →
    (m : ℕ) → m < user_units_of G →
    run a (cell_start G d (user_outer G m)) G.u ≡ run a (cell_start G d (user_cell G m)) G.u
