-- Loops that sum runs: over the sources of one block, and over the blocks. Assumes nothing.
use Prim.Native.Nat.{ℕ, ◌+◌, ◌-◌, ◌<◌}
use mathlib.Core.Path.{◌≡◌, sym, ◌∙◌, ap, ap₂}
use mathlib.Core.Bool.{Bool, true, ◌&&◌}
use mathlib.Core.List.{List, []}
use native.Mathlib.Nat.{add_assoc, add-sub_cancel_left}
use native.Mathlib.Omega.{arith}
use lib.Bits.{bit_xor, xor_zero_r}
use lib.ListN.{get_or, length, take}
use borrow.Rule.Slice.PartMut.{mid_of}
use Rattle.leaves.specs.Bytes.{xors, run, sum_at, sums, zero_below, all_zero, zero_sum, zero_sum_from}
use Rattle.leaves.proofs.Runs.{same_bytes, bytes_of, bytes_xors, length_xors, at_xors, at_run}
use Rattle.leaves.proofs.Sums.{sum_more, bytes_sums}
use Rattle.leaves.proofs.Xor.{xor_assoc}
use Rattle.leaves.proofs.Zeros.{zero_same, zero_add}

-- ---- a loop over the sources: x with the sum of the first t of them
pub gathered_none : (x a : List ℕ) (i : ℕ) → x ≡ xors x (sums a [] i (length x))
unfolding sum_at
gathered_none x a i =
    same_bytes (bytes_of x) (bytes_xors (bytes_of x) (sums a [] i (length x)))
    (λ (j : ℕ) (l : j < length x). sym (ap (bit_xor (get_or x j 0)) ((bytes_sums a [] i (length x)).at j l) ∙ xor_zero_r (get_or x j 0)))

module _ (x a ps : List ℕ) (i t : ℕ) (h : t < length ps) where
  one_more : (j : ℕ) → j < length x
      → bit_xor (bit_xor (get_or x j 0) (get_or (sums a (take t ps) i (length x)) j 0)) (get_or (run a (get_or ps t 0 + i) (length x)) j 0)
      ≡ bit_xor (get_or x j 0) (get_or (sums a (take (t + 1) ps) i (length x)) j 0)
  one_more j l =
      rw (
        (bytes_sums a (take t ps) i (length x)).at j l,
        (bytes_sums a (take (t + 1) ps) i (length x)).at j l,
        at_run a (get_or ps t 0 + i) (length x) j l,
        sum_more a ps t (i + j) h,
        add_assoc (get_or ps t 0) i j,
      )
      (xor_assoc (get_or x j 0) (sum_at a (take t ps) (i + j)) (get_or a (get_or ps t 0 + (i + j)) 0))

  pub gathered_more :
      {y z : List ℕ} → y ≡ xors x (sums a (take t ps) i (length x))
      → z ≡ xors y (mid_of (get_or ps t 0 + i) (get_or ps t 0 + i + length x - (get_or ps t 0 + i)) a)
      → z ≡ xors x (sums a (take (t + 1) ps) i (length x))
  unfolding run
  gathered_more g e =
      e ∙ ap₂ (λ (l : List ℕ) (n : ℕ). xors l (mid_of (get_or ps t 0 + i) n a)) g (add-sub_cancel_left (get_or ps t 0 + i) (length x))
      ∙ same_bytes (bytes_xors (bytes_xors (bytes_of x) (sums a (take t ps) i (length x))) (run a (get_or ps t 0 + i) (length x)))
      (bytes_xors (bytes_of x) (sums a (take (t + 1) ps) i (length x))) one_more

-- ---- the zero test of what was gathered into a list of n zeros
module _
    (z y a ps : List ℕ) (i n : ℕ) (long : length z ≡ n) (none : (j : ℕ) → get_or z j 0 ≡ 0)
    (e : y ≡ xors z (sums a ps i (length z))) where
  length_gathered : length y ≡ n
  length_gathered = ap length e ∙ length_xors z _ ∙ long

  at_gathered : (j : ℕ) → j < n → get_or y j 0 ≡ sum_at a ps (i + j)
  at_gathered j l =
      ap (λ (x : List ℕ). get_or x j 0) e ∙ at_xors z _ j (omega arith)
      ∙ ap₂ bit_xor (none j) ((bytes_sums a ps i (length z)).at j (omega arith))

  pub zero_gathered : (b : Bool) → b ≡ all_zero y → b ≡ zero_sum_from a ps i n
  zero_gathered b h =
      h ∙ ap (zero_below (λ (j : ℕ). get_or y j 0)) length_gathered
      ∙ zero_same (λ (j : ℕ). get_or y j 0) (λ (j : ℕ). sum_at a ps (i + j)) n at_gathered

-- ---- a loop over blocks of offsets: the first i offsets XOR to zero, so the first n do if the k from i on do
pub zero_sum_more : (a ps : List ℕ) (i k n : ℕ) → i + k ≡ n → zero_sum a ps i ≡ true → zero_sum_from a ps i k ≡ zero_sum a ps n
zero_sum_more a ps i k n e h =
    sym (ap (zero_sum a ps) (sym e) ∙ zero_add (λ (l : ℕ). sum_at a ps l) i k ∙ ap (λ (x : Bool). x && zero_sum_from a ps i k) h)
