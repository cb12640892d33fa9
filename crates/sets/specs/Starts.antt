-- 01, "The two parities" and "Design and geometry": where the units of a tuple's sets begin, from where its regions begin. The
-- design enters with the regions alone, so one look at it serves all sets of a tuple. Assumes nothing.
use Rattle.std.specs.Prelude.{ℕ, ◌+◌, ◌-◌, ◌*◌, ◌≤◌, ◌<◌, ◌≡◌, List, get_or, length}
use Rattle.counting.specs.Lists.{list_of}
use Rattle.geometry.specs.declared.Geometry.{Geometry}
use Rattle.geometry.specs.Geometry.{units_of, bytes_of}
use Rattle.region.specs.Columns.{label_column, diagonal_column}
use Rattle.cells.specs.Cells.{cell}
use Rattle.array.specs.Array.{cell_start}

-- where the regions of tuple t begin, by position: each at its row 0, column 0
unfoldable pub region_starts : Geometry → List ℕ → (t : ℕ) → List ℕ
region_starts G d t = list_of (λ (l : ℕ). cell_start G d (cell t l 0 0)) G.k

-- the bytes of one disk, which lie between a unit and the next of its row
unfoldable pub disk_bytes : Geometry → ℕ
disk_bytes G = units_of G * G.u

-- where the unit in row i and column x of a region begins, if the region begins at p
unfoldable pub unit_from : Geometry → (p i x : ℕ) → ℕ
unit_from G p i x = p + x * disk_bytes G + i * G.u

-- a region that begins at p lies in the array: its last unit does [for 1 ≤ g]
pub record RegionFits (G : Geometry) (p : ℕ) : Type 0 where
  pub inside : unit_from G p (G.g - 1) (G.g - 1) + G.u ≤ bytes_of G

-- regions for all positions of a tuple
pub record RegionsFit (G : Geometry) (ps : List ℕ) : Type 0 where
  pub long : length ps ≡ G.k
  pub each : (l : ℕ) → l < G.k → RegionFits G (get_or ps l 0)

-- "The k units with one label form an outer set": those of label (i,c) in regions that begin at ps
unfoldable pub label_starts : Geometry → (ps : List ℕ) → (i c : ℕ) → List ℕ
label_starts G ps i c = list_of (λ (l : ℕ). unit_from G (get_or ps l 0) i (label_column G.g l i c)) G.k

-- "diagonal j of a region has the units of row i": those in a region that begins at p
unfoldable pub diagonal_starts : Geometry → (p j : ℕ) → List ℕ
diagonal_starts G p j = list_of (λ (i : ℕ). unit_from G p i (diagonal_column G.g j i)) G.g
