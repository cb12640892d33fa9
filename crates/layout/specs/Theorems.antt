-- What is proved of the layout on the disks, each under its sentence of 01: the statements alone. They hold for any geometry
-- and any design that rows 2 to 6 of the refusals let through; that g is prime is not used. Assumes nothing.
use Rattle.std.specs.Prelude.{ℕ, ◌+◌, ◌*◌, ◌<◌, ◌≡◌, true, ◌↔◌, List, get_or}
use Rattle.counting.specs.Counting.{count_below}
use Rattle.geometry.specs.declared.Geometry.{Geometry}
use Rattle.geometry.specs.Geometry.{parts_of, user_units_of}
use Rattle.design.specs.Design.{group_at, names, Laid}
use Rattle.numbering.specs.Positions.{parity_position}
use Rattle.numbering.specs.Numbering.{user_tuple, user_row, user_column}
use Rattle.numbering.specs.Ranges.{OuterIn, InnerIn}
use Rattle.cells.specs.declared.Cell.{Cell}
use Rattle.cells.specs.declared.Role.{Role}
use Rattle.cells.specs.Cells.{cell, diagonal_of}
use Rattle.cells.specs.Sets.{InOuter, InInner}
use Rattle.cells.specs.Roles.{user_cell, user_outer, user, outer, inner, cell_of}
use Rattle.cells.specs.Ranges.{CellIn, RoleIn}
use Rattle.layout.specs.declared.Place.{Place}
use Rattle.layout.specs.declared.Four.{Four}
use Rattle.layout.specs.Regions.{region, region_of}
use Rattle.layout.specs.Places.{place, place_of, cell_at, role_at, four_of}
use Rattle.layout.specs.Ranges.{RegionIn, PlaceIn}
use Rattle.layout.specs.Marks.{lost}

-- the place of a role; the cell and the role at a place
abbrev pub role_place : Geometry → List ℕ → Role → Place
role_place G d ρ = place_of G d (cell_of G ρ)

abbrev pub place_cell : Geometry → List ℕ → Place → Cell
place_cell G d p = cell_at G d p.disk.0 p.unit.0

abbrev pub place_role : Geometry → List ℕ → Place → Role
place_role G d p = role_at G d p.disk.0 p.unit.0

-- "disk d is in group d/g (whole part), column d mod g"; "unit number = part·g + row"; "A group's part p belongs to the
-- p-th row of the design, from 0, that names it"
abbrev pub ThePlaceOfACell : Type 0
ThePlaceOfACell =
    (G : Geometry) (d : List ℕ) (t l i x a : ℕ) → a ≡ group_at G.k d t l →
    place_of G d (cell t l i x) ≡ place (a * G.g + x) (count_below (names G.k d a) t * G.g + i)

-- part p of group a is the region of one (t,l), and of no other
pub record OneRegion (G : Geometry) (d : List ℕ) (a p : ℕ) : Type 0 where
  pub tuple : ℕ
  pub position : ℕ
  pub valid : RegionIn G tuple position
  pub here : region_of G d tuple position ≡ region a p
  pub only : (t l : ℕ) → RegionIn G t l → region_of G d t l ≡ region a p → (t ≡ tuple) × (l ≡ position)

-- "Let a region be one part of all g disks of a group"; "Each disk has r parts": the tuples' regions are the parts of the
-- groups
pub record RegionsAreParts (G : Geometry) (d : List ℕ) : Type 0 where
  pub group : (t l : ℕ) → RegionIn G t l → (region_of G d t l).group.0 < G.v
  pub part : (t l : ℕ) → RegionIn G t l → (region_of G d t l).part.0 < parts_of G
  pub each : (a p : ℕ) → a < G.v → p < parts_of G → OneRegion G d a p

abbrev pub EachPartIsOneRegion : Type 0
EachPartIsOneRegion = (G : Geometry) (d : List ℕ) → Laid G d → RegionsAreParts G d

-- each cell has one place and each place one cell
pub record CellsAndPlaces (G : Geometry) (d : List ℕ) : Type 0 where
  pub there : (x : Cell) → CellIn G x → PlaceIn G (place_of G d x)
  pub back : (x : Cell) → CellIn G x → place_cell G d (place_of G d x) ≡ x
  pub here : (p : Place) → PlaceIn G p → CellIn G (place_cell G d p)
  pub again : (p : Place) → PlaceIn G p → place_of G d (place_cell G d p) ≡ p

abbrev pub CellsArePlaces : Type 0
CellsArePlaces = (G : Geometry) (d : List ℕ) → Laid G d → CellsAndPlaces G d

-- "The way back answers, for any disk and unit": the map of roles to places and the way back are inverse, and neither
-- leaves its range
pub record Inverse (G : Geometry) (d : List ℕ) : Type 0 where
  pub there : (ρ : Role) → RoleIn G ρ → PlaceIn G (role_place G d ρ)
  pub back : (ρ : Role) → RoleIn G ρ → place_role G d (role_place G d ρ) ≡ ρ
  pub role : (p : Place) → PlaceIn G p → RoleIn G (place_role G d p)
  pub again : (p : Place) → PlaceIn G p → role_place G d (place_role G d p) ≡ p

abbrev pub TheWayBackIsTheInverse : Type 0
TheWayBackIsTheInverse = (G : Geometry) (d : List ℕ) → Laid G d → Inverse G d

-- so each disk unit has exactly one role
pub record OneRole (G : Geometry) (d : List ℕ) (p : Place) : Type 0 where
  pub role : Role
  pub valid : RoleIn G role
  pub here : role_place G d role ≡ p
  pub only : (ρ : Role) → RoleIn G ρ → role_place G d ρ ≡ p → ρ ≡ role

abbrev pub EachDiskUnitHasOneRole : Type 0
EachDiskUnitHasOneRole = (G : Geometry) (d : List ℕ) → Laid G d → (p : Place) → PlaceIn G p → OneRole G d p

-- and no two user units share a place
abbrev pub NoTwoUserUnitsShareAPlace : Type 0
NoTwoUserUnitsShareAPlace =
    (G : Geometry) (d : List ℕ) → Laid G d → (m n : ℕ) → m < user_units_of G → n < user_units_of G →
    (four_of G d m).user ≡ (four_of G d n).user → m ≡ n

-- "data, outer parity, inner of data, inner of outer": the way back of user n's four places, and the sets of which the three
-- others are the parities. Data and outer parity have one label; the inner parities are those of the diagonals on which the
-- two lie
pub record FourRoles (G : Geometry) (d : List ℕ) (n : ℕ) : Type 0 where
  pub of_user : place_role G d (four_of G d n).user ≡ user n
  pub of_outer : place_role G d (four_of G d n).outer ≡ outer (user_tuple G n) (user_row G n) (user_column G n)
  pub of_inner :
      place_role G d (four_of G d n).inner
      ≡ inner (user_tuple G n) (user_cell G n).position (diagonal_of G (user_cell G n))
  pub of_both :
      place_role G d (four_of G d n).both
      ≡ inner (user_tuple G n) (parity_position G (user_tuple G n)) (diagonal_of G (user_outer G n))
  pub user_in_outer : InOuter G (user_tuple G n) (user_row G n) (user_column G n) (user_cell G n)
  pub outer_in_outer : InOuter G (user_tuple G n) (user_row G n) (user_column G n) (user_outer G n)
  pub user_in_inner : InInner G (user_tuple G n) (user_cell G n).position (diagonal_of G (user_cell G n)) (user_cell G n)
  pub outer_in_inner :
      InInner G (user_tuple G n) (parity_position G (user_tuple G n)) (diagonal_of G (user_outer G n)) (user_outer G n)

abbrev pub TheRolesOfTheFourPlaces : Type 0
TheRolesOfTheFourPlaces =
    (G : Geometry) (d : List ℕ) → Laid G d → (n : ℕ) → n < user_units_of G → FourRoles G d n

-- the four places lie on four different disks
pub record FourApart (f : Four) : Type 0 where
  pub user_outer : f.user.disk ≡ f.outer.disk → ⊥
  pub user_inner : f.user.disk ≡ f.inner.disk → ⊥
  pub user_both : f.user.disk ≡ f.both.disk → ⊥
  pub outer_inner : f.outer.disk ≡ f.inner.disk → ⊥
  pub outer_both : f.outer.disk ≡ f.both.disk → ⊥
  pub inner_both : f.inner.disk ≡ f.both.disk → ⊥

abbrev pub TheFourDisksDiffer : Type 0
TheFourDisksDiffer = (G : Geometry) (d : List ℕ) → Laid G d → (n : ℕ) → n < user_units_of G → FourApart (four_of G d n)

-- no set holds two units of one disk
abbrev pub NoOuterSetHoldsTwoUnitsOfADisk : Type 0
NoOuterSetHoldsTwoUnitsOfADisk =
    (G : Geometry) (d : List ℕ) → Laid G d → (t i c : ℕ) → OuterIn G t i c → (x y : Cell) → InOuter G t i c x →
    InOuter G t i c y → (place_of G d x).disk ≡ (place_of G d y).disk → x ≡ y

abbrev pub NoInnerSetHoldsTwoUnitsOfADisk : Type 0
NoInnerSetHoldsTwoUnitsOfADisk =
    (G : Geometry) (d : List ℕ) → Laid G d → (t l j : ℕ) → InnerIn G t l j → (x y : Cell) → InInner G t l j x →
    InInner G t l j y → (place_of G d x).disk ≡ (place_of G d y).disk → x ≡ y

-- "marks are one byte a disk, 0 present and 1 lost": a unit is lost exactly if its disk's mark is 1
abbrev pub AUnitIsLostWithItsDisk : Type 0
AUnitIsLostWithItsDisk =
    (G : Geometry) (marks : List ℕ) (p : Place) → (lost G marks p ≡ true) ↔ (get_or marks p.disk.0 0 ≡ 1)

abbrev pub UnitsOfADiskAreLostTogether : Type 0
UnitsOfADiskAreLostTogether =
    (G : Geometry) (marks : List ℕ) (p q : Place) → p.disk ≡ q.disk → lost G marks p ≡ lost G marks q
