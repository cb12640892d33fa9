-- The units of a tuple's sets, from where its regions begin: they are the array's, and lie in it. Assumes nothing.
use Prim.Native.Nat.{ℕ, zero, suc, ◌+◌, ◌-◌, ◌*◌, ◌≤◌, ◌<◌}
use mathlib.Core.Path.{◌≡◌, refl, sym, ap, ap₂, ◌∙◌}
use mathlib.Core.List.{List, [], ◌∷◌, ◌++◌}
use native.Mathlib.Nat.{mul-le-mul, mul-le-mul_right}
use native.Mathlib.Omega.{arith}
use lib.ListN.{get_or, length}
use Rattle.counting.specs.Lists.{list_of}
use Rattle.counting.proofs.Lists.{list_of_length, list_of_at}
use Rattle.geometry.specs.declared.Geometry.{Geometry}
use Rattle.geometry.specs.Geometry.{Sound, tuples_of, units_of, bytes_of}
use Rattle.geometry.proofs.Laws.{units_bound, bytes_bound}
use Rattle.design.specs.Design.{Laid}
use Rattle.region.specs.Columns.{label_column, diagonal_column}
use Rattle.cells.specs.Cells.{cell}
use Rattle.cells.specs.Sets.{outer_member, inner_member}
use Rattle.cells.specs.Ranges.{CellIn}
use Rattle.region.proofs.Turns.{label_column_lt, diagonal_column_lt}
use Rattle.layout.specs.Places.{place_of}
use Rattle.leaves.specs.Bytes.{Inside}
use Rattle.array.specs.Array.{start_of, cell_start}
use Rattle.array.proofs.Starts.{cell_start_in}
use Rattle.consistent.specs.Consistent.{outer_starts, inner_starts}
use Rattle.sets.specs.Starts.{region_starts, disk_bytes, unit_from, RegionFits, RegionsFit, label_starts, diagonal_starts}

pub disk_bytes_bound : (G : Geometry) → Sound G → disk_bytes G ≤ 4792320
unfolding disk_bytes
disk_bytes_bound G s = mul-le-mul (units_bound G s) s.u_high

-- a step of the column is a disk, a step of the row a unit
stepped :
    (a x n p i u : ℕ) → ((a + x) * n + (p + i)) * u ≡ ((a + 0) * n + (p + 0)) * u + x * (n * u) + i * u
stepped a x n p i u = omega arith

module _ (G : Geometry) where
  pub cell_start_from :
      (d : List ℕ) (t l i x : ℕ) → cell_start G d (cell t l i x) ≡ unit_from G (cell_start G d (cell t l 0 0)) i x
  unfolding cell_start start_of place_of unit_from disk_bytes
  cell_start_from d t l i x = stepped _ x (units_of G) _ i G.u

  -- every unit of a region lies in the array
  pub unit_in : (p i x : ℕ) → RegionFits G p → i < G.g → x < G.g → unit_from G p i x + G.u ≤ bytes_of G
  unfolding unit_from
  unit_in p i x f h k =
      let a : i ≤ G.g - 1 = omega arith in
      let b : x ≤ G.g - 1 = omega arith in
      omega (arith, f.inside, mul-le-mul_right G.u a, mul-le-mul_right (disk_bytes G) b)

  -- the same, of what the code sums
  module _ (s : Sound G) (disk p i x : ℕ) (e : disk ≡ disk_bytes G) (f : RegionFits G p) (h : i < G.g) (k : x < G.g) where
    pub unit_is : p + x * disk + i * G.u ≡ unit_from G p i x
    unfolding unit_from
    unit_is = ap (λ (n : ℕ). p + x * n + i * G.u) e

    pub unit_fits : p + x * disk + i * G.u ≤ 5669314560
    unit_fits = omega (arith, unit_is, unit_in p i x f h k, bytes_bound G s)

-- lists are the same where their elements are
pub same_elements : (f h : ℕ → ℕ) (n : ℕ) → ((i : ℕ) → i < n → f i ≡ h i) → list_of f n ≡ list_of h n
unfolding list_of
same_elements f h zero e = refl
same_elements f h (suc n) e =
    ap₂ (λ (x : List ℕ) (y : ℕ). x ++ (y ∷ [])) (same_elements f h n (λ (i : ℕ) (p : i < n). e i (omega arith))) (e n (omega arith))

module _ (G : Geometry) (d : List ℕ) (t : ℕ) where
  pub region_length : length (region_starts G d t) ≡ G.k
  unfolding region_starts
  region_length = list_of_length _ G.k

  pub region_start_at : (l : ℕ) → l < G.k → get_or (region_starts G d t) l 0 ≡ cell_start G d (cell t l 0 0)
  unfolding region_starts
  region_start_at l h = list_of_at (λ (l : ℕ). cell_start G d (cell t l 0 0)) G.k l 0 h

  from_region : (l i x : ℕ) → l < G.k → unit_from G (get_or (region_starts G d t) l 0) i x ≡ cell_start G d (cell t l i x)
  from_region l i x h =
      ap (λ (p : ℕ). unit_from G p i x) (region_start_at l h) ∙ sym (cell_start_from G d t l i x)

  pub label_starts_are : (i c : ℕ) → label_starts G (region_starts G d t) i c ≡ outer_starts G d t i c
  unfolding label_starts outer_starts
  label_starts_are i c =
      same_elements _ (λ (l : ℕ). cell_start G d (outer_member G t i c l)) G.k
      (λ (l : ℕ) (h : l < G.k). from_region l i (label_column G.g l i c) h)

  pub diagonal_starts_are :
      (l j : ℕ) → l < G.k → diagonal_starts G (get_or (region_starts G d t) l 0) j ≡ inner_starts G d t l j
  unfolding diagonal_starts inner_starts
  diagonal_starts_are l j h =
      same_elements _ (λ (i : ℕ). cell_start G d (inner_member G t l j i)) G.g
      (λ (i : ℕ) (_ : i < G.g). from_region l i (diagonal_column G.g j i) h)

  -- the regions of a tuple lie in the array
  pub regions_fit : Laid G d → t < tuples_of G → RegionsFit G (region_starts G d t)
  regions_fit L h = record { long = region_length; each = λ (l : ℕ) (k : l < G.k). record { inside = last l k } }
    where
      last : (l : ℕ) → l < G.k → unit_from G (get_or (region_starts G d t) l 0) (G.g - 1) (G.g - 1) + G.u ≤ bytes_of G
      last l k =
          let low : 2 ≤ G.g = L.sound.g_low in
          let x : CellIn G (cell t l (G.g - 1) (G.g - 1)) =
          record { tuple = h; position = k; row = omega arith; column = omega arith } in
          rw (from_region l (G.g - 1) (G.g - 1) k) (cell_start_in G d L (cell t l (G.g - 1) (G.g - 1)) x)

-- ---- the sets' units lie in the array
module _ (G : Geometry) (s : Sound G) where
  g_pos : 0 < G.g
  g_pos = omega (arith, s.g_low)

  pub label_length : (ps : List ℕ) (i c : ℕ) → length (label_starts G ps i c) ≡ G.k
  unfolding label_starts
  label_length ps i c = list_of_length _ G.k

  pub diagonal_length : (p j : ℕ) → length (diagonal_starts G p j) ≡ G.g
  unfolding diagonal_starts
  diagonal_length p j = list_of_length _ G.g

  pub label_at :
      (ps : List ℕ) (i c l : ℕ) → l < G.k → get_or (label_starts G ps i c) l 0 ≡ unit_from G (get_or ps l 0) i (label_column G.g l i c)
  unfolding label_starts
  label_at ps i c l h = list_of_at (λ (l : ℕ). unit_from G (get_or ps l 0) i (label_column G.g l i c)) G.k l 0 h

  pub diagonal_at :
      (p j i : ℕ) → i < G.g → get_or (diagonal_starts G p j) i 0 ≡ unit_from G p i (diagonal_column G.g j i)
  unfolding diagonal_starts
  diagonal_at p j i h = list_of_at (λ (i : ℕ). unit_from G p i (diagonal_column G.g j i)) G.g i 0 h

  pub labels_inside :
      (ps : List ℕ) (i c n : ℕ) → RegionsFit G ps → i < G.g → n ≡ bytes_of G → Inside n (label_starts G ps i c) G.u
  labels_inside ps i c n f h e =
      record {
        inside = λ (l : ℕ) (k : l < length (label_starts G ps i c)).
            let q : l < G.k = omega (arith, label_length ps i c) in
            rw (label_at ps i c l q, e)
            (unit_in G (get_or ps l 0) i (label_column G.g l i c) (f.each l q) h (label_column_lt G.g l i c g_pos));
      }

  pub diagonals_inside :
      (p j n : ℕ) → RegionFits G p → n ≡ bytes_of G → Inside n (diagonal_starts G p j) G.u
  diagonals_inside p j n f e =
      record {
        inside = λ (i : ℕ) (k : i < length (diagonal_starts G p j)).
            let q : i < G.g = omega (arith, diagonal_length p j) in
            rw (diagonal_at p j i q, e)
            (unit_in G p i (diagonal_column G.g j i) f q (diagonal_column_lt G.g j i g_pos));
      }
