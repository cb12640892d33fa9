-- 00, demand 3: "its rebuilt bytes depend on exactly the units in a printed plan": a list of a plan's numbers read as triples,
-- and the XOR of the bytes of the sources that they give. Assumes nothing.
use Rattle.std.specs.Prelude.{ℕ, ◌+◌, ◌*◌, ◌/◌, ◌≤◌, ◌<◌, ◌≡◌, Bool, ◌&&◌, cond, ◌⊎◌, List, [], ◌∷◌, eqb, get_or}
use Rattle.std.specs.Int.Bits.{bit_xor}
use Rattle.counting.specs.Counting.{one_more_if}
use Rattle.geometry.specs.declared.Geometry.{Geometry}
use Rattle.geometry.specs.Geometry.{parts_of, disks_of, units_of}
use Rattle.layout.specs.Places.{place}
use Rattle.array.specs.Array.{start_of}

-- the byte at offset j of unit y of disk x
abbrev pub byte_of : Geometry → (a : List ℕ) → (x y j : ℕ) → ℕ
byte_of G a x y j = get_or a (start_of G (place x y) + j) 0

-- "the triple: unit restored, source disk, source unit"
pub record Triple : Type 0 where
  pub restores : ℕ
  pub disk : ℕ
  pub unit : ℕ

-- the numbers of the list, three by three; one or two at its end are no triple
unfoldable pub triples_in : List ℕ → List Triple
triples_in [] = []
triples_in (y ∷ []) = []
triples_in (y ∷ x ∷ []) = []
triples_in (y ∷ x ∷ z ∷ rest) = record { restores = y; disk = x; unit = z } ∷ triples_in rest

-- the byte at offset j of a triple's source
abbrev pub source_byte : Geometry → (a : List ℕ) → (j : ℕ) → Triple → ℕ
source_byte G a j s = byte_of G a s.disk s.unit j

-- the XOR of the bytes at offset j of the sources of the triples that restore unit y
unfoldable pub source_sum : Geometry → (a : List ℕ) → (j y : ℕ) → List Triple → ℕ
source_sum G a j y [] = 0
source_sum G a j y (s ∷ ss) = bit_xor (cond (eqb s.restores y) (source_byte G a j s) 0) (source_sum G a j y ss)

-- (y, z, w) is a triple of the list
abbrev pub IsTriple : (y z w : ℕ) → List Triple → Type 0
IsTriple y z w [] = ⊥
IsTriple y z w (s ∷ ss) = (s ≡ record { restores = y; disk = z; unit = w }) ⊎ IsTriple y z w ss

-- how many of the triples pass a test
unfoldable pub count_in : (Triple → Bool) → List Triple → ℕ
count_in f [] = 0
count_in f (s ∷ ss) = one_more_if (f s) (count_in f ss)

-- the source is on disk x; it is unit z of disk x; it is on disk x, in part p [for 1 ≤ g]
abbrev pub on_disk : (x : ℕ) → Triple → Bool
on_disk x s = eqb s.disk x

abbrev pub is_unit : (x z : ℕ) → Triple → Bool
is_unit x z s = eqb s.disk x && eqb s.unit z

abbrev pub in_part : Geometry → (x p : ℕ) → Triple → Bool
in_part G x p s = eqb s.disk x && eqb (s.unit / G.g) p

-- of group a, "all disks but one give one unit and that one gives none"
pub record AllButOne (G : Geometry) (a : ℕ) (plan : List Triple) : Type 0 where
  pub column : ℕ
  pub low : column < G.g
  pub none : count_in (on_disk (a * G.g + column)) plan ≡ 0
  pub one : (c : ℕ) → c < G.g → (c ≡ column → ⊥) → count_in (on_disk (a * G.g + c)) plan ≡ 1

-- what each disk gives to restore disk x: units that there are, none twice, disk x none; "In every other group all disks but
-- one give one unit and that one gives none. Each surviving disk of its own group gives one unit per part" [for 1 ≤ g]
pub record Shares (G : Geometry) (x : ℕ) (plan : List Triple) : Type 0 where
  pub inside : (y z w : ℕ) → IsTriple y z w plan → (y < units_of G) × (z < disks_of G) × (w < units_of G)
  pub once : (z w : ℕ) → count_in (is_unit z w) plan ≤ 1
  pub itself : count_in (on_disk x) plan ≡ 0
  pub others : (a : ℕ) → a < G.v → (a ≡ x / G.g → ⊥) → AllButOne G a plan
  pub group :
      (z : ℕ) → z < disks_of G → z / G.g ≡ x / G.g → (z ≡ x → ⊥) → (p : ℕ) → p < parts_of G →
      count_in (in_part G z p) plan ≡ 1
