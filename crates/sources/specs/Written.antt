-- The plan in the order in which it is written: the list as the parts, rows and members are stored one after the other, with a
-- tuple's regions looked up once. Helpers of the contracts; proofs/Same.antt ties them to the plan. Assumes nothing.
use Rattle.std.specs.Prelude.{ℕ, ◌+◌, ◌-◌, ◌*◌, ◌≤◌, ◌<◌, ◌≡◌, cond, List, [], ◌∷◌, ltb, eqb, length, get_or}
use Rattle.std.proofs.lemmas.List.Edits.{sets}
use Rattle.geometry.specs.declared.Geometry.{Geometry}
use Rattle.region.specs.Columns.{label_column, diagonal_column}
use Rattle.cells.specs.declared.Cell.{Cell}
use Rattle.cells.specs.Cells.{cell, label_of, diagonal_of}
use Rattle.layout.specs.declared.Place.{Place}
use Rattle.layout.specs.declared.Region.{Region}
use Rattle.layout.specs.Regions.{region, region_of}
use Rattle.layout.specs.Places.{in_region, cell_at}
use Rattle.layout.specs.Ranges.{SmallRegion}
use Rattle.sources.specs.declared.Triples.{Triples}
use Rattle.sources.specs.Plan.{lists_of, unit_plan}

-- new is stored from the next place on, and the next place is behind it; the list that is lent stays the same one
pub record Written (old : Triples) (new : List ℕ) (last : Triples) : Type 0 where
  pub is : last.list.now ≡ sets old.list.now old.next new
  pub next : last.next ≡ old.next + length new
  pub lent : last.list.ghost_name ≡ old.list.ghost_name

-- a tuple's regions, by position
abbrev pub in_hand : List Region → ℕ → Region
in_hand regions e = get_or regions e (region 0 0)

-- there is one for each position, small enough to be multiplied by g
pub record Regions (G : Geometry) (regions : List Region) : Type 0 where
  pub long : G.k ≤ length regions
  pub small : (e : ℕ) → e < G.k → SmallRegion (in_hand regions e)

-- they are those of tuple t
abbrev pub RegionsOf : Geometry → (design : List ℕ) → (t : ℕ) → List Region → Type 0
RegionsOf G d t regions = (e : ℕ) → e < G.k → in_hand regions e ≡ region_of G d t e

-- each of a set's n members can be asked for, and what is told is its place
pub record Told (pre : ℕ → Type 0) (post : ℕ → Place → Type 0) (place : ℕ → Place) (n : ℕ) : Type 0 where
  pub asked : (e : ℕ) → e < n → pre e
  pub is : (e : ℕ) → e < n → (p : Place) → post e p → p ≡ place e

-- the triple of unit y and a source
abbrev pub triple_of : (y : ℕ) → Place → List ℕ
triple_of y p = y ∷ p.disk.0 ∷ p.unit.0 ∷ []

-- that of unit y and a set's e-th member, none where the member is the unit itself: the q-th
abbrev pub member_triples : (place : ℕ → Place) → (q y e : ℕ) → List ℕ
member_triples place q y e = cond (eqb e q) [] (triple_of y (place e))

-- those of its n members
abbrev pub set_triples : (place : ℕ → Place) → (q y n : ℕ) → List ℕ
set_triples place q y n = lists_of (member_triples place q y) n

-- the places of the members of the outer set of label (i,c), where ρ has the tuple's regions, and of the inner set of diagonal j in
-- region a
abbrev pub outer_source : Geometry → (ρ : ℕ → Region) → (i c : ℕ) → (e : ℕ) → Place
outer_source G ρ i c e = in_region G (ρ e) i (label_column G.g e i c)

abbrev pub inner_source : Geometry → Region → (j : ℕ) → (e : ℕ) → Place
inner_source G a j e = in_region G a e (diagonal_column G.g j e)

-- the triples of unit y [for 1 ≤ g]
unfoldable pub unit_triples : Geometry → (ρ : ℕ → Region) → (y : ℕ) → Cell → List ℕ
unit_triples G ρ y x =
    cond (ltb x.row (G.g - 1))
    (set_triples (outer_source G ρ x.row (label_of G x)) x.position y G.k)
    (set_triples (inner_source G (ρ x.position) (diagonal_of G x)) x.row y G.g)

-- those of the unit in row i, in the region and the column of x, where the region's first unit is y
abbrev pub row_triples : Geometry → (ρ : ℕ → Region) → (y : ℕ) → Cell → (i : ℕ) → List ℕ
row_triples G ρ y x i = unit_triples G ρ (y + i) (cell x.tuple.0 x.position i x.column)

-- the plan of a disk's part p
unfoldable pub part_plan : Geometry → List ℕ → (disk p : ℕ) → List ℕ
part_plan G d disk p = lists_of (λ (i : ℕ). unit_plan G d (p * G.g + i) (cell_at G d disk (p * G.g + i))) G.g
