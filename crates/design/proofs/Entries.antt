-- A design's list scanned entry by entry, not row by row: how often a group has come by, and where its p-th entry stands.
-- Assumes nothing.
use Prim.Native.Nat.{ℕ, zero, suc, ◌+◌, ◌*◌, ◌/◌, ◌%◌, ◌<◌, ◌≤◌}
use mathlib.Core.Path.{◌≡◌, sym, ap, ◌∙◌}
use mathlib.Core.Bool.{Bool, true}
use mathlib.Core.List.{List}
use lib.Dec.{eqb}
use lib.ListN.{get_or}
use lib.Arith.{digits_lt, digits_div, digits_mod}
use native.Mathlib.Nat.{suc-mul, zero-mul, le_refl, le_trans}
use native.Mathlib.Omega.{arith}
use borrow.Author.Tests.{eq-eqb}
use Rattle.counting.specs.Counting.{count_below, nth_below}
use Rattle.counting.proofs.Laws.{lowest_before, count_zero, count_none, count_add, nth_lt, nth_holds, nth_count, count_nth}
use Rattle.counting.proofs.Sums.{count_next}
use Rattle.design.specs.Design.{group_at, names, Design}
use Rattle.design.proofs.Rows.{holds, position, position_lt, position_holds, row_count}

-- the test that entry e of the list is group a
abbrev pub is_entry : List ℕ → ℕ → ℕ → Bool
is_entry d a e = eqb (get_or d e 0) a

-- the entry at which group a's part p is found, by a scan of the list
abbrev pub entry_of : (k b : ℕ) → List ℕ → (a p : ℕ) → ℕ
entry_of k b d a p = nth_below (is_entry d a) (b * k) p

-- the row of group a's part p
abbrev pub row_of : (k b : ℕ) → List ℕ → (a p : ℕ) → ℕ
row_of k b d a p = nth_below (names k d a) b p

-- in row t the entries up to position l are the row's positions up to l
pub entries_in_row :
    (k : ℕ) (d : List ℕ) (a t l : ℕ) →
    count_below (is_entry d a) (t * k + l) ≡ count_below (is_entry d a) (t * k) + count_below (holds k d a t) l
unfolding group_at
entries_in_row k d a t l = count_add (is_entry d a) (t * k) l

module _ (v k b : ℕ) (d : List ℕ) (D : Design v k b d) (a : ℕ) where
  -- the entries of the rows before t that are group a: as many as those rows that name it
  pub entries_count : (t : ℕ) → t ≤ b → count_below (is_entry d a) (t * k) ≡ count_below (names k d a) t
  entries_count zero h = rw zero-mul (count_zero (is_entry d a) ∙ sym (count_zero (names k d a)))
  entries_count (suc t) h =
      rw suc-mul
      (omega (
        arith,
        entries_in_row k d a t k,
        entries_count t (omega arith),
        row_count v k b d D t h a,
        count_next (names k d a) t,
      ))

  -- and so up to the group's own entry in row t: what a scan has counted there is the number of the group's part
  pub entries_before :
      (t l : ℕ) → t ≤ b → l ≤ position k d a t → count_below (is_entry d a) (t * k + l) ≡ count_below (names k d a) t
  entries_before t l h q =
      omega (
        arith,
        entries_in_row k d a t l,
        entries_count t h,
        count_none (holds k d a t) l (λ i r. lowest_before (holds k d a t) k i (le_trans r q)),
      )

  -- the group's entry in a row that names it, found by the number of its part
  pub entry_in_row :
      (t : ℕ) → t < b → names k d a t ≡ true →
      entry_of k b d a (count_below (names k d a) t) ≡ t * k + position k d a t
  unfolding group_at
  entry_in_row t h y =
      rw (← entries_before t (position k d a t) (omega arith) (le_refl _))
      (nth_count (is_entry d a) (b * k) (t * k + position k d a t) (digits_lt h (position_lt k d a t y))
      (eq-eqb (group_at k d t (position k d a t)) a (position_holds k d a t y)))

-- where a scan of the list finds group a's part p
pub record PartEntry (k b : ℕ) (d : List ℕ) (a p : ℕ) : Type 0 where
  pub entry_lt : entry_of k b d a p < b * k
  pub entry_row : entry_of k b d a p / k ≡ row_of k b d a p
  pub entry_position : entry_of k b d a p % k ≡ position k d a (row_of k b d a p)
  pub row_lt : row_of k b d a p < b
  pub row_names : names k d a (row_of k b d a p) ≡ true
  pub position_below : position k d a (row_of k b d a p) < k
  pub group_there : group_at k d (row_of k b d a p) (position k d a (row_of k b d a p)) ≡ a

pub part_entry :
    (v k b : ℕ) (d : List ℕ) → Design v k b d → (a p : ℕ) → p < count_below (names k d a) b → PartEntry k b d a p
part_entry v k b d D a p h =
    record {
      entry_lt = rw entry (digits_lt row small);
      entry_row = rw entry (digits_div (row_of k b d a p) small);
      entry_position = rw entry (digits_mod (row_of k b d a p) small);
      row_lt = row;
      row_names = named;
      position_below = small;
      group_there = position_holds k d a (row_of k b d a p) named;
    }
  where
    row : row_of k b d a p < b
    row = nth_lt (names k d a) b p h

    named : names k d a (row_of k b d a p) ≡ true
    named = nth_holds (names k d a) b p h

    small : position k d a (row_of k b d a p) < k
    small = position_lt k d a (row_of k b d a p) named

    entry : entry_of k b d a p ≡ row_of k b d a p * k + position k d a (row_of k b d a p)
    entry =
        ap (entry_of k b d a) (sym (count_nth (names k d a) b p h)) ∙ entry_in_row v k b d D a (row_of k b d a p) row named
