-- A set of which one unit was restored: its bytes, the others', and the sum of all of it. Assumes nothing.
use Prim.Native.Nat.{ℕ, zero, suc, ◌+◌, ◌-◌, ◌≤◌, ◌<◌}
use mathlib.Core.Path.{◌≡◌, sym, ◌∙◌, ap, ap₂}
use mathlib.Core.Bool.{true}
use mathlib.Core.List.{List, [], ◌∷◌, ◌++◌, append_assoc, append-nil}
use mathlib.Core.Logic.{◌⊎◌, inl, inr, ⊎_elim}
use native.Mathlib.Nat.{zero-add, add-zero, add-suc, add_assoc, le_refl}
use native.Mathlib.Decide.{dec_lt}
use native.Mathlib.Omega.{arith}
use lib.Bits.{bit_xor, xor_comm, xor_self}
use lib.ListN.{get_or, length, take, drop, length-append, length-drop, get_or-append}
use lib.Seq.{length-take-le, get_or-take, get_or-drop, get_or-append-add, split_at}
use Rattle.counting.specs.Lists.{list_of}
use Rattle.leaves.specs.Bytes.{run, sum_at, sums, zero_sum, Apart}
use Rattle.leaves.proofs.Sums.{sum_append, bytes_sums}
use Rattle.leaves.proofs.Runs.{same_bytes, bytes_run}
use Rattle.leaves.proofs.Xor.{xor_assoc, xor_zero_same}
use Rattle.leaves.proofs.Zeros.{zero_is}
use Rattle.restoring.specs.Restore.{stored, rest_of, restored_in, OneOf}
use Rattle.restoring.proofs.Stored.{
  length_stored,
  stored_in,
  stored_out,
  run_stored,
  run_stored_apart,
  stored_same,
  sum_stored,
}

-- ---- sums of some offsets and of the next
pub sums_more : (a ps : List ℕ) (i m k : ℕ) → sums a ps i (m + k) ≡ sums a ps i m ++ sums a ps (i + m) k
unfolding sums list_of
sums_more a ps i m zero = ap (sums a ps i) (add-zero m) ∙ sym (append-nil (sums a ps i m))
sums_more a ps i m (suc k) =
    ap (sums a ps i) (add-suc m k)
    ∙ ap₂ (λ (l : List ℕ) (n : ℕ). l ++ (sum_at a ps n ∷ [])) (sums_more a ps i m k) (sym (add_assoc i m k))
    ∙ append_assoc (sums a ps i m) (sums a ps (i + m) k) (sum_at a ps (i + m + k) ∷ [])

pub length_sums : (a ps : List ℕ) (i n : ℕ) → length (sums a ps i n) ≡ n
length_sums a ps i n = (bytes_sums a ps i n).long

-- ---- the rest of a set: each of its members is one of the set, and not the q-th
pub record Other (ps : List ℕ) (q t : ℕ) : Type 0 where
  pub place : ℕ
  pub below : place < length ps
  pub other : place ≡ q → ⊥
  pub same : get_or (rest_of ps q) t 0 ≡ get_or ps place 0

module _ (ps : List ℕ) (q : ℕ) (h : q < length ps) where
  length_first : length (take q ps) ≡ q
  length_first = length-take-le q ps (omega arith)

  rest_past : (j : ℕ) → get_or (rest_of ps q) (q + j) 0 ≡ get_or ps (suc q + j) 0
  rest_past j =
      ap (λ (n : ℕ). get_or (rest_of ps q) (n + j) 0) (sym length_first)
      ∙ get_or-append-add (take q ps) (drop (suc q) ps) j 0 ∙ get_or-drop (suc q) ps j 0

  pub rest_other : (t : ℕ) → t < length (rest_of ps q) → Other ps q t
  rest_other t l = go (dec_lt t q)
    where
      go : Dec (t < q) → Other ps q t
      go (yes k) = record {
        place = t;
        below = omega arith;
        other = λ (e : t ≡ q). omega arith;
        same = get_or-append (take q ps) (drop (suc q) ps) 0 t (rw length_first k) ∙ get_or-take q ps t 0 k;
      }
      go (no k) =
          let n : length (rest_of ps q) ≡ length (take q ps) + length (drop (suc q) ps) =
          length-append (take q ps) (drop (suc q) ps) in
          let e : t ≡ q + (t - q) = omega arith in
          let f : suc q + (t - q) ≡ suc t = omega arith in
          record {
            place = suc t;
            below = omega (arith, n, length_first, length-drop (suc q) ps);
            other = λ (z : suc t ≡ q). omega arith;
            same = ap (λ (i : ℕ). get_or (rest_of ps q) i 0) e ∙ rest_past (t - q) ∙ ap (λ (i : ℕ). get_or ps i 0) f;
          }

  -- the sum of all is that of the rest and the q-th
  pub sum_rest : (a : List ℕ) (i : ℕ) → sum_at a ps i ≡ bit_xor (sum_at a (rest_of ps q) i) (get_or a (get_or ps q 0 + i) 0)
  unfolding sum_at
  sum_rest a i =
      let x : ℕ = sum_at a (take q ps) i in
      let y : ℕ = get_or a (get_or ps q 0 + i) 0 in
      let z : ℕ = sum_at a (drop (suc q) ps) i in
      ap (λ (l : List ℕ). sum_at a l i) (split_at ps q 0 h) ∙ sum_append a (take q ps) (get_or ps q 0 ∷ drop (suc q) ps) i
      ∙ ap (bit_xor x) (xor_comm y z) ∙ sym (xor_assoc x z y)
      ∙ ap (λ (s : ℕ). bit_xor s y) (sym (sum_append a (take q ps) (drop (suc q) ps) i))

-- ---- runs one of which is the q-th
pub own_fits : {m : ℕ} {ps : List ℕ} {q u : ℕ} → OneOf m ps q u → get_or ps q 0 + u ≤ m
own_fits {m} {ps} {q} o = o.inside.inside q o.below

-- shorter runs
pub one_shorter : (m : ℕ) (ps : List ℕ) (q u k : ℕ) → OneOf m ps q u → k ≤ u → OneOf m ps q k
one_shorter m ps q u k o h = record {
  inside = record { inside = λ (t : ℕ) (l : t < length ps). omega (arith, o.inside.inside t l) };
  spread = record {
    spread =
        λ (s t : ℕ) (i : s < length ps) (j : t < length ps) (e : s ≡ t → ⊥).
        let x : ℕ = get_or ps s 0 in
        let y : ℕ = get_or ps t 0 in
        record {
          apart =
              ⊎_elim (λ (l : x + u ≤ y). inl (omega arith)) (λ (l : y + u ≤ x). inr (omega arith))
              (o.spread.spread s t i j e).apart;
        };
  };
  below = o.below;
}

-- ---- one of the runs becomes the sum of the others
module _ (a ps : List ℕ) (q u : ℕ) (o : OneOf (length a) ps q u) where
  abbrev p : ℕ
  p = get_or ps q 0

  abbrev rest : List ℕ
  rest = rest_of ps q

  abbrev new : List ℕ
  new = sums a rest 0 u

  pub rest_apart : (t : ℕ) → t < length rest → Apart p u (get_or rest t 0) u
  rest_apart t l =
      let w : Other ps q t = rest_other ps q o.below t l in
      rw w.same (o.spread.spread q w.place o.below w.below (λ (e : q ≡ w.place). w.other (sym e)))

  -- no source has a byte in the first n of the own run
  pub rest_out :
      (n i : ℕ) → n ≤ u → i < u → (t : ℕ) → t < length rest → (get_or rest t 0 + i < p) ⊎ (p + n ≤ get_or rest t 0 + i)
  rest_out n i h k t l =
      let r : ℕ = get_or rest t 0 in
      ⊎_elim (λ (m : p + u ≤ r). inr (omega arith)) (λ (m : r + u ≤ p). inl (omega arith)) (rest_apart t l).apart

  fits_new : p + length new ≤ length a
  fits_new = rw (length_sums a rest 0 u) (own_fits o)

  pub restored_length : length (restored_in a ps q u) ≡ length a
  unfolding restored_in
  restored_length = length_stored a p new fits_new

  -- "the XOR of the rest"
  pub restored_own : (i : ℕ) → i < u → get_or (restored_in a ps q u) (p + i) 0 ≡ sum_at a rest i
  unfolding restored_in
  restored_own i l =
      stored_in a p new fits_new i (rw (length_sums a rest 0 u) l) ∙ (bytes_sums a rest 0 u).at i l
      ∙ ap (sum_at a rest) (zero-add i)

  pub restored_run : run (restored_in a ps q u) p u ≡ new
  unfolding restored_in
  restored_run = ap (run (restored_in a ps q u) p) (sym (length_sums a rest 0 u)) ∙ run_stored a p new fits_new

  -- every other byte stays
  pub restored_out : (n : ℕ) → (n < p) ⊎ (p + u ≤ n) → get_or (restored_in a ps q u) n 0 ≡ get_or a n 0
  unfolding restored_in
  restored_out n h = stored_out a p new fits_new n (rw (length_sums a rest 0 u) h)

  pub restored_apart : (r n : ℕ) → r + n ≤ length a → Apart p u r n → run (restored_in a ps q u) r n ≡ run a r n
  unfolding restored_in
  restored_apart r n h k = run_stored_apart a p new fits_new r n h (rw (length_sums a rest 0 u) k)

  -- so does the sum of the rest
  pub restored_rest : (i : ℕ) → i < u → sum_at (restored_in a ps q u) rest i ≡ sum_at a rest i
  unfolding restored_in
  restored_rest i l = sum_stored a p new fits_new rest i (rw (length_sums a rest 0 u) (rest_out u i (le_refl u) l))

  -- the whole set XORs to zero
  pub restored_is_zero : (i : ℕ) → i < u → sum_at (restored_in a ps q u) ps i ≡ 0
  restored_is_zero i l =
      sum_rest ps q o.below (restored_in a ps q u) i ∙ ap₂ bit_xor (restored_rest i l) (restored_own i l)
      ∙ xor_self (sum_at a rest i)

  pub restored_zero_sum : zero_sum (restored_in a ps q u) ps u ≡ true
  restored_zero_sum = zero_is (λ (i : ℕ). sum_at (restored_in a ps q u) ps i) u restored_is_zero

  -- a set that XORs to zero already stays as it is
  pub restored_same : ((i : ℕ) → i < u → sum_at a ps i ≡ 0) → restored_in a ps q u ≡ a
  unfolding restored_in
  restored_same z =
      ap (stored a p)
      (same_bytes (bytes_sums a rest 0 u) (bytes_run a p u (own_fits o))
      (λ (i : ℕ) (l : i < u).
      ap (sum_at a rest) (zero-add i)
      ∙ xor_zero_same (sum_at a rest i) (get_or a (p + i) 0) (sym (sum_rest ps q o.below a i) ∙ z i l)))
      ∙ stored_same a p u (own_fits o)
