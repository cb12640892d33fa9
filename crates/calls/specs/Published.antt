-- 00, demand 2: "The place of each user block, the way back from a disk unit to its role, and both parities are those of the
-- published layout. An accepted write puts the same byte difference into one data and three parity units and touches nothing
-- else." The published layout in 01's own formulas, for the statements over the calls `map`, `role` and `write`. Assumes nothing.
use Rattle.std.specs.Prelude.{ℕ, ◌+◌, ◌-◌, ◌*◌, ◌%◌, ◌≤◌, ◌<◌, ◌≡◌, ◌⊎◌, List, get_or, length}
use Rattle.std.specs.Int.Bits.{bit_xor}
use contract.Lifetimes.{Lfts}
use Rattle.counting.specs.Counting.{count_below}
use Rattle.geometry.specs.declared.Geometry.{Geometry}
use Rattle.geometry.specs.declared.UserUnit.{UserUnit}
use Rattle.geometry.specs.Geometry.{units_of}
use Rattle.design.specs.Design.{group_at, names}
use Rattle.numbering.specs.Ranges.{OuterIn, InnerIn, UserIn}
use Rattle.cells.specs.declared.Role.{Role}
use Rattle.cells.specs.declared.Role.TheVariants.{User, Outer, Inner}
use Rattle.cells.specs.Roles.{outer, inner}
use Rattle.layout.specs.declared.Place.{Place}
use Rattle.layout.specs.declared.Four.{Four}
use Rattle.layout.specs.Places.{place}
use Rattle.address.proofs.role.Reads as role
use Rattle.calls.specs.Refuses.{Lent}
use Rattle.std.specs.Prelude.{Result, Ok}
use Rattle.refusal.specs.declared.Refusal.{Refusal}

-- "n = ((t·(k-1) + l)·(g-1) + i)·g + c" [for 1 ≤ k and 1 ≤ g]
abbrev pub unit_of : Geometry → (t l i c : ℕ) → UserUnit
unit_of G t l i c = record { 0 = ((t * (G.k - 1) + l) * (G.g - 1) + i) * G.g + c }

-- "label (i,c) stands in the region at position l in column (c + i·l) mod g" [for 1 ≤ g]
abbrev pub column_at : Geometry → (l i c : ℕ) → ℕ
column_at G l i c = (c + i * l) % G.g

-- "diagonal j of a region has the units of row i, column (i - j) mod g": j is the diagonal of row i and column x
-- [for i < g and x < g]
pub record Diagonal (G : Geometry) (i x j : ℕ) : Type 0 where
  pub low : j < G.g
  pub turned : (x + j) % G.g ≡ i

-- "disk d is in group d/g (whole part), column d mod g"; "unit number = part·g + row"; "A group's part p belongs to the p-th row
-- of the design, from 0, that names it": row i and column x of the part of group a that belongs to row t
abbrev pub place_in : Geometry → List ℕ → (a t i x : ℕ) → Place
place_in G d a t i x = place (a * G.g + x) (count_below (names G.k d a) t * G.g + i)

-- "A tuple's regions have positions l = 0 to k-1 in the row's order": row i and column x of the region at position l of tuple t
abbrev pub region_place : Geometry → List ℕ → (t l i x : ℕ) → Place
region_place G d t l i x = place_in G d (group_at G.k d t l) t i x

-- label (i,c) at position l of tuple t
abbrev pub label_place : Geometry → List ℕ → (t l i c : ℕ) → Place
label_place G d t l i c = region_place G d t l i (column_at G l i c)

-- "Row g-1 holds its parity, in column g-1-j": the inner parity of diagonal j [for j < g]
abbrev pub inner_place : Geometry → List ℕ → (t l j : ℕ) → Place
inner_place G d t l j = region_place G d t l (G.g - 1) (G.g - 1 - j)

-- the inner parity of the diagonal on which label (i,c) lies in the region at position l
abbrev pub InnerOf : Geometry → List ℕ → (t l i c : ℕ) → Place → Type 0
InnerOf G d t l i c p = (j : ℕ) × Diagonal G i (column_at G l i c) j × (p ≡ inner_place G d t l j)

-- "data, outer parity, inner of data, inner of outer": "User unit n is label (i,c) at position l of tuple t"; of the label's set
-- "The unit at position k-1 is its parity" [for 1 ≤ k]
pub record PublishedPlaces (G : Geometry) (d : List ℕ) (t l i c : ℕ) (f : Four) : Type 0 where
  pub user : f.user ≡ label_place G d t l i c
  pub outer : f.outer ≡ label_place G d t (G.k - 1) i c
  pub inner : InnerOf G d t l i c f.inner
  pub both : InnerOf G d t (G.k - 1) i c f.both

-- "The way back answers, for any disk and unit: user unit n; outer parity of (t,i,c); or inner parity of (t,l,j)": the place is
-- the published one of the role [for 1 ≤ k]
abbrev pub PublishedRole : Geometry → List ℕ → Place → Role → Type 0
PublishedRole G d p (User n) =
    (t : ℕ) × (l : ℕ) × (i : ℕ) × (c : ℕ) × UserIn G t l i c × (n ≡ unit_of G t l i c) × (p ≡ label_place G d t l i c)
PublishedRole G d p (Outer t i c) = OuterIn G t.0 i c × (p ≡ label_place G d t.0 (G.k - 1) i c)
PublishedRole G d p (Inner t l j) = InnerIn G t.0 l j × (p ≡ inner_place G d t.0 l j)

-- at this place the call `role` answers this role, and nothing else
abbrev pub Answers : Lfts 1 → Geometry → Lent → Place → Role → Type 0
Answers κs G design p ρ =
    (r : Result Role Refusal) → role.Post κs (G, (design, (p.disk, (p.unit, tt)))) r (G, (design, (p.disk, (p.unit, tt)))) → r ≡ Ok ρ

-- the inner parity of the diagonal on which label (i,c) lies in the region at position l, by the way back
abbrev pub AnswersInner : Lfts 1 → Geometry → Lent → (t l i c : ℕ) → Place → Type 0
AnswersInner κs G design t l i c p = (j : ℕ) × Diagonal G i (column_at G l i c) j × Answers κs G design p (inner t l j)

-- the way back of the four places [for 1 ≤ k]
pub record FourBack (κs : Lfts 1) (G : Geometry) (design : Lent) (t l i c : ℕ) (f : Four) : Type 0 where
  pub user : Answers κs G design f.user (User (unit_of G t l i c))
  pub outer : Answers κs G design f.outer (outer t i c)
  pub inner : AnswersInner κs G design t l i c f.inner
  pub both : AnswersInner κs G design t (G.k - 1) i c f.both

-- "The buffer holds disk 0 whole, then disk 1, and so on": byte o + j of the unit at place p
abbrev pub byte_at : Geometry → Place → (o j : ℕ) → ℕ
byte_at G p o j = (p.disk.0 * units_of G + p.unit.0) * G.u + o + j

-- from a to b, "the difference of new and old bytes is XORed into" the unit at place p; the old bytes are those at place x
abbrev pub XoredInto : Geometry → (a b : List ℕ) → (x : Place) → (o : ℕ) → (new : List ℕ) → (p : Place) → Type 0
XoredInto G a b x o new p =
    (j : ℕ) → j < length new →
    get_or b (byte_at G p o j) 0
    ≡ bit_xor (get_or a (byte_at G p o j) 0) (bit_xor (get_or a (byte_at G x o j) 0) (get_or new j 0))

-- byte i of the array is none of the n bytes from offset o of the unit at place p
abbrev pub Outside : Geometry → Place → (o n i : ℕ) → Type 0
Outside G p o n i = (i < byte_at G p o 0) ⊎ (byte_at G p o n ≤ i)

-- "into the data unit, its outer parity, the inner parity of the data unit and the inner parity of the outer parity unit", and
-- into no other byte
pub record FourXored (G : Geometry) (a b : List ℕ) (f : Four) (o : ℕ) (new : List ℕ) : Type 0 where
  pub long : length b ≡ length a
  pub user : XoredInto G a b f.user o new f.user
  pub outer : XoredInto G a b f.user o new f.outer
  pub inner : XoredInto G a b f.user o new f.inner
  pub both : XoredInto G a b f.user o new f.both
  pub nothing_else :
      (i : ℕ) → Outside G f.user o (length new) i → Outside G f.outer o (length new) i →
      Outside G f.inner o (length new) i → Outside G f.both o (length new) i → get_or b i 0 ≡ get_or a i 0

-- user unit n is a label's, and its four published places have the difference
pub record Written (G : Geometry) (d a b : List ℕ) (n : UserUnit) (o : ℕ) (new : List ℕ) : Type 0 where
  pub tuple : ℕ
  pub position : ℕ
  pub row : ℕ
  pub column : ℕ
  pub label : UserIn G tuple position row column
  pub number : n ≡ unit_of G tuple position row column
  pub places : Four
  pub published : PublishedPlaces G d tuple position row column places
  pub xored : FourXored G a b places o new
