-- The blocks of a restored unit: the rest gathered from both sides of the own run, a block stored, and block after block.
-- Assumes nothing.
use Prim.Native.Nat.{ℕ, suc, ◌+◌, ◌-◌, ◌≤◌, ◌<◌}
use mathlib.Core.Path.{◌≡◌, sym, ◌∙◌, ap, ap₂}
use mathlib.Core.List.{List, ◌++◌}
use native.Mathlib.Nat.{le_refl, zero-add}
use native.Mathlib.Numerals.{add-one}
use native.Mathlib.Omega.{arith}
use lib.Bits.{bit_xor}
use lib.ListN.{get_or, length, take, drop, length-drop}
use lib.Seq.{take_all}
use borrow.Rule.Slice.PartMut.{mid_of, put_mid}
use Rattle.counting.specs.Lists.{list_of}
use Rattle.leaves.specs.Bytes.{xors, sum_at, sums}
use Rattle.leaves.proofs.Runs.{same_bytes, bytes_of, bytes_xors, length_xors}
use Rattle.leaves.proofs.Sums.{sum_append, bytes_sums}
use Rattle.leaves.proofs.Xor.{xor_assoc}
use Rattle.restoring.specs.Restore.{stored, rest_of, restored_in, OneOf}
use Rattle.restoring.proofs.Stored.{stored_nil, stored_more, sum_stored, put_stored}
use Rattle.restoring.proofs.Restored.{length_sums, sums_more, own_fits, rest_out}

-- ---- the sources past the q-th, lent
past_is : (ps : List ℕ) (q : ℕ) → q < length ps → mid_of (q + 1) (length ps - (q + 1)) ps ≡ drop (suc q) ps
past_is ps q h =
    ap (λ (n : ℕ). mid_of n (length ps - n) ps) (add-one q)
    ∙ take_all (length ps - suc q) (drop (suc q) ps) (rw (length-drop (suc q) ps) (le_refl (length ps - suc q)))

-- gathered one after the other
pub gathered_rest :
    (x y z a ps : List ℕ) (q i : ℕ) → q < length ps → y ≡ xors x (sums a (take q ps) i (length x))
    → z ≡ xors y (sums a (mid_of (q + 1) (length ps - (q + 1)) ps) i (length y)) → z ≡ xors x (sums a (rest_of ps q) i (length x))
gathered_rest x y z a ps q i h f g =
    let n : length y ≡ length x = ap length f ∙ length_xors x _ in
    let e : z ≡ xors (xors x (sums a (take q ps) i (length x))) (sums a (drop (suc q) ps) i (length x)) =
    g ∙ ap₂ (λ (l : List ℕ) (k : ℕ). xors y (sums a l i k)) (past_is ps q h) n
    ∙ ap (λ (l : List ℕ). xors l (sums a (drop (suc q) ps) i (length x))) f in
    e
    ∙ same_bytes (bytes_xors (bytes_xors (bytes_of x) (sums a (take q ps) i (length x))) (sums a (drop (suc q) ps) i (length x)))
    (bytes_xors (bytes_of x) (sums a (rest_of ps q) i (length x)))
    (λ (j : ℕ) (l : j < length x).
    rw (
      (bytes_sums a (take q ps) i (length x)).at j l,
      (bytes_sums a (drop (suc q) ps) i (length x)).at j l,
      (bytes_sums a (rest_of ps q) i (length x)).at j l,
      sum_append a (take q ps) (drop (suc q) ps) (i + j),
    )
    (xor_assoc (get_or x j 0) (sum_at a (take q ps) (i + j)) (sum_at a (drop (suc q) ps) (i + j))))

-- gathered into zeros, and copied to the part from p on
pub block_stored :
    (z y x a ps : List ℕ) (p i k : ℕ) → length z ≡ k → ((j : ℕ) → get_or z j 0 ≡ 0) → y ≡ xors z (sums a ps i (length z)) → x ≡ y
    → put_mid p (p + k - p) a x ≡ stored a p (sums a ps i k)
block_stored z y x a ps p i k long none f g =
    let e : y ≡ sums a ps i k =
    f
    ∙ same_bytes (bytes_xors (bytes_of z) (sums a ps i (length z))) (bytes_sums a ps i (length z))
    (λ (j : ℕ) (l : j < length z). ap₂ bit_xor (none j) ((bytes_sums a ps i (length z)).at j l))
    ∙ ap (sums a ps i) long in
    ap (put_mid p (p + k - p) a) (g ∙ e) ∙ put_stored a p k (sums a ps i k) (length_sums a ps i k)

-- ---- a loop over blocks
-- nothing is done
pub restoring_none : (a ps : List ℕ) (q : ℕ) → a ≡ stored a (get_or ps q 0) (sums a (rest_of ps q) 0 0)
unfolding sums list_of
restoring_none a ps q = sym (stored_nil a (get_or ps q 0))

-- the first i bytes of the q-th run are done, and the next k make j
module _ (a₀ ps : List ℕ) (q u i k j : ℕ) (o : OneOf (length a₀) ps q u) (next : i + k ≡ j) (room : j ≤ u) where
  abbrev p : ℕ
  p = get_or ps q 0

  abbrev done : List ℕ
  done = sums a₀ (rest_of ps q) 0 i

  fits : p + length done ≤ length a₀
  fits = rw (length_sums a₀ (rest_of ps q) 0 i) (omega (arith, own_fits o))

  module _ {a : List ℕ} (is : a ≡ stored a₀ p done) where
    -- the runs lie apart, so what is read is as it was
    still : sums a (rest_of ps q) i k ≡ sums a₀ (rest_of ps q) i k
    still =
        same_bytes (bytes_sums a (rest_of ps q) i k) (bytes_sums a₀ (rest_of ps q) i k)
        (λ (l : ℕ) (h : l < k).
        ap (λ (x : List ℕ). sum_at x (rest_of ps q) (i + l)) is
        ∙ sum_stored a₀ p done fits (rest_of ps q) (i + l)
        (rw (length_sums a₀ (rest_of ps q) 0 i) (rest_out a₀ ps q u o i (i + l) (omega arith) (omega arith))))

    pub restoring_more : {b : List ℕ} → b ≡ stored a (p + i) (sums a (rest_of ps q) i k) → b ≡ stored a₀ p (sums a₀ (rest_of ps q) 0 j)
    restoring_more {b} e =
        e ∙ ap₂ (λ (x y : List ℕ). stored x (p + i) y) is still
        ∙ ap (λ (n : ℕ). stored (stored a₀ p done) (p + n) (sums a₀ (rest_of ps q) i k)) (sym (length_sums a₀ (rest_of ps q) 0 i))
        ∙ stored_more a₀ p done fits (sums a₀ (rest_of ps q) i k)
        ∙ ap (stored a₀ p)
        (ap (λ (n : ℕ). done ++ sums a₀ (rest_of ps q) n k) (sym (zero-add i)) ∙ sym (sums_more a₀ (rest_of ps q) 0 i k)
        ∙ ap (sums a₀ (rest_of ps q) 0) next)

-- all of it is done
pub restoring_all :
    (a₀ ps : List ℕ) (q : ℕ) {i u : ℕ} {a : List ℕ} → i ≡ u → a ≡ stored a₀ (get_or ps q 0) (sums a₀ (rest_of ps q) 0 i)
    → a ≡ restored_in a₀ ps q u
unfolding restored_in
restoring_all a₀ ps q e is = is ∙ ap (λ (n : ℕ). stored a₀ (get_or ps q 0) (sums a₀ (rest_of ps q) 0 n)) e
