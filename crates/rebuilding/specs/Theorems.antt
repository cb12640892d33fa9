-- What is proved of the rebuild, each under its sentence of 00 or 01: the statements alone. Assumes nothing.
use Rattle.std.specs.Prelude.{ℕ, ◌*◌, ◌<◌, ◌≡◌, false, List, length}
use Rattle.geometry.specs.declared.Geometry.{Geometry}
use Rattle.geometry.specs.Geometry.{tuples_of, units_of, bytes_of}
use Rattle.design.specs.Design.{Laid}
use Rattle.layout.specs.declared.Place.{Place}
use Rattle.layout.specs.Ranges.{PlaceIn}
use Rattle.layout.specs.Marks.{lost}
use Rattle.leaves.specs.Bytes.{run}
use Rattle.array.specs.Array.{start_of}
use Rattle.consistent.specs.Consistent.{Consistent}
use Rattle.reaching.specs.Reach.{incomplete}
use Rattle.completing.specs.Theorems.{lost_disks}
use Rattle.rebuilding.specs.Rebuild.{rebuilt_of, restored_of}

-- a checked design with an array and marks, every tuple of which completes: what 2 to 8 and 13 let through
pub record Complete (G : Geometry) (d marks a : List ℕ) : Type 0 where
  pub laid : Laid G d
  pub whole : length a ≡ bytes_of G
  pub complete : (t : ℕ) → t < tuples_of G → incomplete G d marks t ≡ false

-- the bytes of the unit at a place
abbrev pub unit_at : Geometry → List ℕ → Place → List ℕ
unit_at G a p = run a (start_of G p) G.u

-- two arrays hold the same on the disks that are not marked
abbrev pub SamePresent : Geometry → (marks a b : List ℕ) → Type 0
SamePresent G marks a b = (p : Place) → PlaceIn G p → lost G marks p ≡ false → unit_at G a p ≡ unit_at G b p

-- "Units of present disks don't change."
pub record PresentStay (G : Geometry) (marks a b : List ℕ) : Type 0 where
  pub long : length b ≡ length a
  pub same : SamePresent G marks a b

abbrev pub UnitsOfPresentDisksStay : Type 0
UnitsOfPresentDisksStay =
    (G : Geometry) (d marks a : List ℕ) → Complete G d marks a → PresentStay G marks a (rebuilt_of G d marks a)

-- "the count of restored units is returned, which is the number of units on lost disks"
abbrev pub TheCountIsOfTheUnitsOnLostDisks : Type 0
TheCountIsOfTheUnitsOnLostDisks =
    (G : Geometry) (d marks a : List ℕ) → Complete G d marks a → restored_of G d marks ≡ lost_disks G marks * units_of G

-- on consistent bytes every unit comes back as it was before the loss, whatever the lost disks hold
abbrev pub ConsistentArraysComeBack : Type 0
ConsistentArraysComeBack =
    (G : Geometry) (d marks before held : List ℕ) → Complete G d marks held → length before ≡ bytes_of G →
    Consistent G d before → SamePresent G marks before held → rebuilt_of G d marks held ≡ before

-- what the array holds on lost disks never counts
abbrev pub WhatLostDisksHoldDoesNotCount : Type 0
WhatLostDisksHoldDoesNotCount =
    (G : Geometry) (d marks a b : List ℕ) → Complete G d marks a → length b ≡ bytes_of G → SamePresent G marks a b →
    rebuilt_of G d marks a ≡ rebuilt_of G d marks b
