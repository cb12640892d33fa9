-- The loops that fill a list with a tuple's regions, a label's units or a diagonal's units. Assumes nothing.
use Prim.Native.Nat.{ℕ, ◌+◌, ◌*◌, ◌%◌, ◌<◌}
use mathlib.Core.Path.{◌≡◌, sym, ap, ◌∙◌}
use mathlib.Core.List.{List}
use native.Mathlib.Nat.{mod-eq_of_lt, mod-add-mod}
use native.Mathlib.Omega.{arith}
use lib.ListN.{get_or, length, set}
use Rattle.geometry.specs.declared.Geometry.{Geometry}
use Rattle.geometry.specs.Geometry.{Sound}
use Rattle.region.specs.Columns.{label_column, diagonal_column}
use Rattle.cells.specs.Cells.{cell}
use Rattle.region.proofs.Turns.{label_column_lt, diagonal_column_lt}
use Rattle.leaves.proofs.Filled.{Filled, filled_none, filled_more}
use Rattle.array.specs.Array.{cell_start}
use Rattle.sets.specs.Starts.{region_starts, unit_from, label_starts, diagonal_starts}
use Rattle.sets.proofs.Starts.{region_length, region_start_at, label_length, label_at, diagonal_length, diagonal_at}

-- ---- columns by steps: "(c + i·l) mod g" from one position to the next, "(i - j) mod g" from one row to the next
pub label_first : (g i c : ℕ) → c < g → label_column g 0 i c ≡ c
unfolding label_column
label_first g i c h = let e : c + i * 0 ≡ c = omega arith in ap (λ (n : ℕ). n % g) e ∙ mod-eq_of_lt h

pub label_next : (g l i c : ℕ) → (label_column g l i c + i) % g ≡ label_column g (l + 1) i c
unfolding label_column
label_next g l i c =
    let e : c + i * l + i ≡ c + i * (l + 1) = omega arith in
    mod-add-mod (c + i * l) g i ∙ ap (λ (n : ℕ). n % g) e

pub diagonal_next : (g j i : ℕ) → (diagonal_column g j i + 1) % g ≡ diagonal_column g j (i + 1)
unfolding diagonal_column
diagonal_next g j i =
    mod-add-mod _ g 1 ∙ ap (λ (n : ℕ). n % g) (omega arith)

-- ---- the regions of a tuple
module _ (G : Geometry) (d : List ℕ) (t : ℕ) where
  pub regions_none : (xs : List ℕ) → length xs ≡ G.k → Filled xs (region_starts G d t) xs 0
  regions_none xs h = filled_none xs _ (region_length G d t ∙ sym h)

  pub regions_more :
      (xs ys : List ℕ) (l : ℕ) → length xs ≡ G.k → Filled xs (region_starts G d t) ys l → l < G.k → (v : ℕ)
      → v ≡ cell_start G d (cell t l 0 0) → Filled xs (region_starts G d t) (set ys l v) (l + 1)
  regions_more xs ys l n f h v e = filled_more f (omega arith) v (e ∙ sym (region_start_at G d t l h))

-- ---- the units of a label
module _ (G : Geometry) (ps : List ℕ) (i c : ℕ) (xs : List ℕ) where
  pub record Labels (ys : List ℕ) (x l : ℕ) : Type 0 where
    pub filled : Filled xs (label_starts G ps i c) ys l
    pub column : x ≡ label_column G.g l i c

module _ {G : Geometry} (s : Sound G) {ps : List ℕ} {i c : ℕ} {xs : List ℕ} (n : length xs ≡ G.k) where
  pub labels_none : c < G.g → Labels G ps i c xs xs c 0
  labels_none h =
      record { filled = filled_none xs _ (label_length G s ps i c ∙ sym n); column = sym (label_first G.g i c h) }

  module _ {ys : List ℕ} {x l : ℕ} (f : Labels G ps i c xs ys x l) where
    pub labels_column : x < G.g
    labels_column = let p : 0 < G.g = omega (arith, s.g_low) in rw f.column (label_column_lt G.g l i c p)

    pub labels_more :
        l < G.k → (v y : ℕ) → v ≡ unit_from G (get_or ps l 0) i x → y ≡ (x + i) % G.g
        → Labels G ps i c xs (set ys l v) y (l + 1)
    labels_more h v y e m =
        record {
          filled = filled_more f.filled (omega arith) v
              (e ∙ ap (unit_from G (get_or ps l 0) i) f.column ∙ sym (label_at G s ps i c l h));
          column = m ∙ ap (λ (a : ℕ). (a + i) % G.g) f.column ∙ label_next G.g l i c;
        }

-- ---- the units of a diagonal
module _ (G : Geometry) (p j : ℕ) (xs : List ℕ) where
  pub record Diagonals (ys : List ℕ) (x i : ℕ) : Type 0 where
    pub filled : Filled xs (diagonal_starts G p j) ys i
    pub column : x ≡ diagonal_column G.g j i

module _ {G : Geometry} (s : Sound G) {p j : ℕ} {xs : List ℕ} (n : length xs ≡ G.g) where
  pub diagonals_none : (x : ℕ) → x ≡ diagonal_column G.g j 0 → Diagonals G p j xs xs x 0
  diagonals_none x e = record { filled = filled_none xs _ (diagonal_length G s p j ∙ sym n); column = e }

  module _ {ys : List ℕ} {x i : ℕ} (f : Diagonals G p j xs ys x i) where
    pub diagonals_column : x < G.g
    diagonals_column = let q : 0 < G.g = omega (arith, s.g_low) in rw f.column (diagonal_column_lt G.g j i q)

    pub diagonals_more :
        i < G.g → (v y : ℕ) → v ≡ unit_from G p i x → y ≡ (x + 1) % G.g → Diagonals G p j xs (set ys i v) y (i + 1)
    diagonals_more h v y e m =
        record {
          filled = filled_more f.filled (omega arith) v
              (e ∙ ap (unit_from G p i) f.column ∙ sym (diagonal_at G s p j i h));
          column = m ∙ ap (λ (a : ℕ). (a + 1) % G.g) f.column ∙ diagonal_next G.g j i;
        }
