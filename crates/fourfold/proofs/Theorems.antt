-- The statements of specs/Theorems.antt on bytes hold; those on sets stand in WrittenSets.antt. Assumes nothing.
use Prim.Native.Nat.{ℕ, suc, ◌+◌, ◌≤◌, ◌<◌}
use mathlib.Core.Path.{◌≡◌, sym, ap, ◌∙◌}
use mathlib.Core.Logic.{inl, inr, ⊎_elim}
use mathlib.Core.List.{List, [], ◌∷◌}
use native.Mathlib.Nat.{add-zero}
use native.Mathlib.Omega.{arith}
use lib.Bits.{bit_xor}
use lib.ListN.{get_or, length}
use Rattle.geometry.specs.declared.Geometry.{Geometry}
use Rattle.geometry.specs.declared.UserUnit.{UserUnit}
use Rattle.geometry.specs.Geometry.{user_units_of}
use Rattle.numbering.specs.Numbering.{user_tuple, user_row, user_column}
use Rattle.cells.specs.declared.Cell.{Cell}
use Rattle.cells.specs.Ranges.{CellIn}
use Rattle.cells.specs.Cells.{diagonal_of}
use Rattle.cells.specs.Roles.{user_cell, user_outer, inner_of, user, outer, inner, role_of}
use Rattle.numbering.proofs.Numbering.{digits_in}
use Rattle.cells.proofs.Roles.{user_cell_in, role_of_user, role_of_outer, role_of_inner}
use Rattle.cells.proofs.Sets.{diagonal_in}
use Rattle.leaves.specs.Bytes.{written, difference_at, Apart}
use Rattle.leaves.proofs.Runs.{length_add_all}
use Rattle.runs.proofs.Writes.{length_difference, written_apart, written_there, written_same}
use Rattle.array.specs.Array.{cell_start}
use Rattle.array.proofs.Theorems.{no_two_units_share_a_byte}
use Rattle.reading.specs.Reading.{read_of}
use Rattle.fourfold.specs.Writing.{write_cells, difference_of, write_of}
use Rattle.fourfold.specs.Theorems.{Range, at, Beside, SameDifference}
use Rattle.fourfold.specs.Theorems as Theorems
use Rattle.fourfold.proofs.Bytes.{Off, add_all_off, add_all_in, at_difference, apart_within}
use Rattle.fourfold.proofs.Starts.{starts, user_in, outer_in, inner_in, range_in, each_start, starts_inside, starts_spread}

-- the write as one of bytes, at the four ranges
abbrev written_at : Geometry → List ℕ → List ℕ → (m o : ℕ) → List ℕ → List ℕ
written_at G d a m o new =
    written a (cell_start G d (user_cell G m) + o)
    ((cell_start G d (user_outer G m) + o)
    ∷ (cell_start G d (inner_of G (user_cell G m)) + o)
    ∷ (cell_start G d (inner_of G (user_outer G m)) + o)
    ∷ []) new

module _ {G : Geometry} {d a : List ℕ} {m o : ℕ} (new : List ℕ) (R : Range G d a m o (length new)) where
  abbrev p : ℕ
  p = cell_start G d (user_cell G m) + o

  fits : p + length new ≤ length a
  fits = range_in R (user_cell G m) (user_in R)

  long : length (difference_at a p new) ≡ length new
  long = length_difference a p new fits

  -- byte j of the t-th range
  added :
      (t : ℕ) → t < 4 → (j : ℕ) → j < length new
      → get_or (written_at G d a m o new) (get_or (starts G d m o) t 0 + j) 0
      ≡ bit_xor (get_or a (get_or (starts G d m o) t 0 + j) 0) (bit_xor (get_or a (p + j) 0) (get_or new j 0))
  added t k j l =
      add_all_in a (starts G d m o) (difference_at a p new) (rw long (starts_spread R)) (rw long (starts_inside R)) j (rw long l) t
      k
      ∙ ap (bit_xor (get_or a (get_or (starts G d m o) t 0 + j) 0)) (at_difference a p new fits j l)

  off : (x : Cell) (i : ℕ) → Beside G d x o (length new) i → Off (length new) i (cell_start G d x + o)
  off x i =
      ⊎_elim (λ (l : i < at G d x o 0). inl (omega arith)) (λ (l : at G d x o (length new) ≤ i). inr l)

  same_difference : SameDifference G d a (written_at G d a m o new) m o new
  same_difference =
      record {
        long = length_add_all a (starts G d m o) (difference_at a p new);
        user = added 0 (omega arith);
        outer = added 1 (omega arith);
        inner = added 2 (omega arith);
        both = added 3 (omega arith);
        nothing_else =
            λ (i : ℕ) user outer inner both.
            add_all_off a (starts G d m o) (difference_at a p new) i
            (rw long
            (each_start R (Off (length new) i) (off (user_cell G m) i user) (off (user_outer G m) i outer)
            (off (inner_of G (user_cell G m)) i inner) (off (inner_of G (user_outer G m)) i both)));
      }

pub a_write_puts_one_difference_into_four_units : Theorems.AWritePutsOneDifferenceIntoFourUnits
unfolding write_of write_cells difference_of read_of
a_write_puts_one_difference_into_four_units G d a m o new R = same_difference new R

pub a_read_after_a_write : Theorems.AReadAfterAWrite
unfolding write_of write_cells difference_of read_of
a_read_after_a_write G d a m o new R =
    written_there a (cell_start G d (user_cell G m) + o) _ new (range_in R (user_cell G m) (user_in R))
    (λ (t : ℕ) (l : t < 3). (starts_spread R).spread 0 (suc t) (omega arith) (omega arith) (λ (e : 0 ≡ suc t). omega arith))

-- a user unit that is not m lies apart from all four ranges
module _ {G : Geometry} {d a : List ℕ} {m o n : ℕ} (R : Range G d a m o n)
    (w : ℕ) (below : w < user_units_of G) (differ : w ≡ m → ⊥) where
  -- since its cell's role is another one
  by_role :
      (y : Cell) → CellIn G y → (user w ≡ role_of G y → ⊥)
      → Apart (cell_start G d y + o) n (cell_start G d (user_cell G w)) G.u
  by_role y h other =
      apart_within (cell_start G d y) (cell_start G d (user_cell G w)) G.u o n R.inside
      (no_two_units_share_a_byte G d R.laid y (user_cell G w) h (user_cell_in G R.laid.sound w below)
      (λ (e : y ≡ user_cell G w). other (sym (role_of_user G R.laid.sound w below) ∙ ap (role_of G) (sym e))))

  not_user : user w ≡ role_of G (user_cell G m) → ⊥
  not_user e =
      let z : user w ≡ user m = e ∙ role_of_user G R.laid.sound m R.user in
      let k : ◌≡◌ {A = UserUnit} (record { 0 = w }) (record { 0 = m }) = cc in differ (ap (λ (x : UserUnit). x.0) k)

  not_outer : user w ≡ role_of G (user_outer G m) → ⊥
  unfolding user_outer
  not_outer e =
      let z : user w ≡ outer (user_tuple G m) (user_row G m) (user_column G m) =
      e ∙ role_of_outer G R.laid.sound _ _ _ (digits_in G m R.laid.sound R.user).label in
      let k : ◌≡◌ {A = ℕ} 0 1 = cc in omega arith

  not_inner : (x : Cell) → CellIn G x → user w ≡ role_of G (inner_of G x) → ⊥
  unfolding inner_of
  not_inner x h e =
      let z : user w ≡ inner x.tuple.0 x.position (diagonal_of G x) =
      e ∙ role_of_inner G R.laid.sound _ _ _ (diagonal_in G R.laid.sound x h) in
      let k : ◌≡◌ {A = ℕ} 0 1 = cc in omega arith

  other_apart : (t : ℕ) → t < 4 → Apart (get_or (starts G d m o) t 0) n (cell_start G d (user_cell G w)) G.u
  other_apart =
      each_start R (λ (q : ℕ). Apart q n (cell_start G d (user_cell G w)) G.u)
      (by_role (user_cell G m) (user_in R) not_user)
      (by_role (user_outer G m) (outer_in R) not_outer)
      (by_role (inner_of G (user_cell G m)) (inner_in R _ (user_in R)) (not_inner (user_cell G m) (user_in R)))
      (by_role (inner_of G (user_outer G m)) (inner_in R _ (outer_in R)) (not_inner (user_outer G m) (outer_in R)))

pub other_user_units_keep_their_bytes : Theorems.OtherUserUnitsKeepTheirBytes
unfolding write_of write_cells difference_of read_of
other_user_units_keep_their_bytes G d a m o new R w below differ =
    rw (add-zero (cell_start G d (user_cell G w)))
    (written_apart a (cell_start G d (user_cell G m) + o) _ new (range_in R (user_cell G m) (user_in R))
    (cell_start G d (user_cell G w)) G.u (other_apart R w below differ))

pub writing_the_bytes_already_there_changes_nothing : Theorems.WritingTheBytesAlreadyThereChangesNothing
unfolding write_of write_cells difference_of read_of
writing_the_bytes_already_there_changes_nothing G d a m o n R =
    written_same a (cell_start G d (user_cell G m) + o) _ n (range_in R (user_cell G m) (user_in R))
