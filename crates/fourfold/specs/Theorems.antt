-- What is proved of the write, each under its sentence of 00 or 01: the statements alone. Assumes nothing.
use Rattle.std.specs.Prelude.{ℕ, ◌+◌, ◌≤◌, ◌<◌, ◌≡◌, ◌⊎◌, List, get_or, length}
use Rattle.std.specs.Int.Bits.{bit_xor}
use Rattle.geometry.specs.declared.Geometry.{Geometry}
use Rattle.geometry.specs.Geometry.{user_units_of, sets_of, bytes_of}
use Rattle.design.specs.Design.{Laid}
use Rattle.cells.specs.declared.Cell.{Cell}
use Rattle.cells.specs.Roles.{user_cell, user_outer, inner_of}
use Rattle.array.specs.Array.{cell_start}
use Rattle.consistent.specs.Consistent.{set_zero, Consistent}
use Rattle.reading.specs.Reading.{read_of}
use Rattle.fourfold.specs.Writing.{write_of}

-- n bytes from offset o of user unit m, in an array a of a checked design: what 2 to 8, 10 and 11 let through
pub record Range (G : Geometry) (d a : List ℕ) (m o n : ℕ) : Type 0 where
  pub laid : Laid G d
  pub whole : length a ≡ bytes_of G
  pub user : m < user_units_of G
  pub inside : o + n ≤ G.u

-- byte j of the range from offset o of a cell's unit
abbrev pub at : Geometry → List ℕ → Cell → (o j : ℕ) → ℕ
at G d x o j = cell_start G d x + o + j

-- from a to b, the difference of the new bytes and the data unit's old ones is XORed into the unit of cell x, at the same
-- offsets
abbrev pub Added : Geometry → List ℕ → (a b : List ℕ) → (m o : ℕ) → (new : List ℕ) → Cell → Type 0
Added G d a b m o new x =
    (j : ℕ) → j < length new →
    get_or b (at G d x o j) 0
    ≡ bit_xor (get_or a (at G d x o j) 0) (bit_xor (get_or a (at G d (user_cell G m) o j) 0) (get_or new j 0))

-- byte i of the array is none of the range's n bytes in the unit of cell x
abbrev pub Beside : Geometry → List ℕ → Cell → (o n i : ℕ) → Type 0
Beside G d x o n i = (i < at G d x o 0) ⊎ (at G d x o n ≤ i)

-- "An accepted write puts the same byte difference into one data and three parity units and touches nothing else"
pub record SameDifference (G : Geometry) (d a b : List ℕ) (m o : ℕ) (new : List ℕ) : Type 0 where
  pub long : length b ≡ length a
  pub user : Added G d a b m o new (user_cell G m)
  pub outer : Added G d a b m o new (user_outer G m)
  pub inner : Added G d a b m o new (inner_of G (user_cell G m))
  pub both : Added G d a b m o new (inner_of G (user_outer G m))
  pub nothing_else :
      (i : ℕ) → Beside G d (user_cell G m) o (length new) i → Beside G d (user_outer G m) o (length new) i →
      Beside G d (inner_of G (user_cell G m)) o (length new) i → Beside G d (inner_of G (user_outer G m)) o (length new) i →
      get_or b i 0 ≡ get_or a i 0

abbrev pub AWritePutsOneDifferenceIntoFourUnits : Type 0
AWritePutsOneDifferenceIntoFourUnits =
    (G : Geometry) (d a : List ℕ) (m o : ℕ) (new : List ℕ) → Range G d a m o (length new) →
    SameDifference G d a (write_of G d a m o new) m o new

-- after a write a read of the range gives the written bytes
abbrev pub AReadAfterAWrite : Type 0
AReadAfterAWrite =
    (G : Geometry) (d a : List ℕ) (m o : ℕ) (new : List ℕ) → Range G d a m o (length new) →
    read_of G d (write_of G d a m o new) m o (length new) ≡ new

-- and other user units keep theirs
abbrev pub OtherUserUnitsKeepTheirBytes : Type 0
OtherUserUnitsKeepTheirBytes =
    (G : Geometry) (d a : List ℕ) (m o : ℕ) (new : List ℕ) → Range G d a m o (length new) →
    (w : ℕ) → w < user_units_of G → (w ≡ m → ⊥) →
    read_of G d (write_of G d a m o new) w 0 G.u ≡ read_of G d a w 0 G.u

-- "Writing the bytes already there changes nothing."
abbrev pub WritingTheBytesAlreadyThereChangesNothing : Type 0
WritingTheBytesAlreadyThereChangesNothing =
    (G : Geometry) (d a : List ℕ) (m o n : ℕ) → Range G d a m o n → write_of G d a m o (read_of G d a m o n) ≡ a

-- every set XORs to zero after a write exactly if it did before
abbrev pub AWriteLeavesEachSetAsItWas : Type 0
AWriteLeavesEachSetAsItWas =
    (G : Geometry) (d a : List ℕ) (m o : ℕ) (new : List ℕ) → Range G d a m o (length new) →
    (s : ℕ) → s < sets_of G → set_zero G d (write_of G d a m o new) s ≡ set_zero G d a s

-- so a consistent array stays consistent
abbrev pub AWriteKeepsAConsistentArrayConsistent : Type 0
AWriteKeepsAConsistentArrayConsistent =
    (G : Geometry) (d a : List ℕ) (m o : ℕ) (new : List ℕ) → Range G d a m o (length new) →
    Consistent G d a → Consistent G d (write_of G d a m o new)
