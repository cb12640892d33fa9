-- The XOR of several runs at one offset. Assumes nothing.
use Prim.Native.Nat.{ℕ, zero, suc, ◌+◌, ◌≤◌, ◌<◌}
use mathlib.Core.Path.{◌≡◌, refl, sym, ◌∙◌, ap, ap₂}
use mathlib.Core.List.{List, [], ◌∷◌, ◌++◌}
use mathlib.Core.Logic.{◌⊎◌, inl, inr, ⊎_elim}
use native.Mathlib.Numerals.{add-one}
use native.Mathlib.Omega.{arith}
use lib.Bits.{bit_xor, xor_zero_r}
use lib.ListN.{get_or, length, take}
use lib.Seq.{take-suc}
use Rattle.counting.proofs.Lists.{list_of_length, list_of_at}
use Rattle.leaves.specs.Bytes.{add_at, laid, sum_at, sums, Apart, Inside, Spread}
use Rattle.leaves.proofs.Runs.{Bytes, length_add_at, at_add_at, add_at_out, laid_shift}
use Rattle.leaves.proofs.Xor.{xor_assoc, xor_swap, xor_twice}

pub sum_append : (a ps qs : List ℕ) (i : ℕ) → sum_at a (ps ++ qs) i ≡ bit_xor (sum_at a ps i) (sum_at a qs i)
unfolding sum_at
sum_append a [] qs i = refl
sum_append a (p ∷ ps) qs i =
    ap (bit_xor (get_or a (p + i) 0)) (sum_append a ps qs i) ∙ sym (xor_assoc (get_or a (p + i) 0) (sum_at a ps i) (sum_at a qs i))

pub sum_single : (a : List ℕ) (p i : ℕ) → sum_at a (p ∷ []) i ≡ get_or a (p + i) 0
unfolding sum_at
sum_single a p i = xor_zero_r (get_or a (p + i) 0)

-- one source more
pub sum_more :
    (a ps : List ℕ) (t i : ℕ) → t < length ps
    → sum_at a (take (t + 1) ps) i ≡ bit_xor (sum_at a (take t ps) i) (get_or a (get_or ps t 0 + i) 0)
sum_more a ps t i h =
    rw (add-one t, take-suc ps t 0 h)
    (sum_append a (take t ps) (get_or ps t 0 ∷ []) i ∙ ap (bit_xor (sum_at a (take t ps) i)) (sum_single a (get_or ps t 0) i))

pub bytes_sums : (a ps : List ℕ) (i n : ℕ) → Bytes (sums a ps i n) n (λ (j : ℕ). sum_at a ps (i + j))
unfolding sums
bytes_sums a ps i n = record { long = list_of_length _ n; at = λ j l. list_of_at (λ (j : ℕ). sum_at a ps (i + j)) n j 0 l }

-- ---- after bytes were added at a position
-- no source has a byte at offset i where e was added
pub sum_out :
    (a : List ℕ) (p : ℕ) (e ps : List ℕ) (i : ℕ)
    → ((t : ℕ) → t < length ps → (get_or ps t 0 + i < p) ⊎ (p + length e ≤ get_or ps t 0 + i))
    → sum_at (add_at a p e) ps i ≡ sum_at a ps i
unfolding sum_at
sum_out a p e [] i h = refl
sum_out a p e (q ∷ ps) i h =
    ap₂ bit_xor (add_at_out a p e (q + i) (h 0 (omega arith)))
    (sum_out a p e ps i (λ (t : ℕ) (l : t < length ps). h (suc t) (omega arith)))

-- runs of u bytes; e is added o bytes into the run from p, and i is an offset in the runs
module _ (p o u : ℕ) (e : List ℕ) (i : ℕ) (fits : o + length e ≤ u) (below : i < u) where
  apart_out : (q : ℕ) → Apart p u q u → (q + i < p + o) ⊎ (p + o + length e ≤ q + i)
  apart_out q h = ⊎_elim (λ (k : p + u ≤ q). inr (omega arith)) (λ (k : q + u ≤ p). inl (omega arith)) h.apart

  -- that run is none of the sources
  pub sum_none :
      (a ps : List ℕ) → ((t : ℕ) → t < length ps → Apart p u (get_or ps t 0) u) → sum_at (add_at a (p + o) e) ps i ≡ sum_at a ps i
  sum_none a ps h = sum_out a (p + o) e ps i (λ (t : ℕ) (l : t < length ps). apart_out (get_or ps t 0) (h t l))

  hit :
      (a : List ℕ) (q : ℕ) → p + u ≤ length a → q ≡ p
      → get_or (add_at a (p + o) e) (q + i) 0 ≡ bit_xor (get_or a (q + i) 0) (laid o e i)
  hit a q k h =
      at_add_at a (p + o) e (q + i) (omega arith)
      ∙ ap (bit_xor (get_or a (q + i) 0)) (ap (λ (x : ℕ). laid (p + o) e (x + i)) h ∙ laid_shift p o e i)

  -- that run is the t-th source, and lies apart from the others
  pub sum_one :
      (a ps : List ℕ) (t : ℕ) → t < length ps → get_or ps t 0 ≡ p → p + u ≤ length a → ((s : ℕ) → s < length ps → (s ≡ t → ⊥) → Apart p u (get_or ps s 0) u)
      → sum_at (add_at a (p + o) e) ps i ≡ bit_xor (sum_at a ps i) (laid o e i)
  unfolding sum_at
  sum_one a [] t l h k r = absurd (omega arith)
  sum_one a (q ∷ ps) zero l h k r =
      ap₂ bit_xor (hit a q k h)
      (sum_none a ps (λ (s : ℕ) (m : s < length ps). r (suc s) (omega arith) (λ (z : suc s ≡ 0). omega arith)))
      ∙ xor_swap (get_or a (q + i) 0) (laid o e i) (sum_at a ps i)
  sum_one a (q ∷ ps) (suc t) l h k r =
      ap₂ bit_xor (add_at_out a (p + o) e (q + i) (apart_out q (r 0 (omega arith) (λ (z : 0 ≡ suc t). omega arith))))
      (sum_one a ps t (omega arith) h k
      (λ (s : ℕ) (m : s < length ps) (n : s ≡ t → ⊥). r (suc s) (omega arith) (λ (z : suc s ≡ suc t). n (omega arith))))
      ∙ sym (xor_assoc (get_or a (q + i) 0) (sum_at a ps i) (laid o e i))

-- sources that lie apart from each other
module _ (ps : List ℕ) (o u : ℕ) (e : List ℕ) (i : ℕ) (fits : o + length e ≤ u) (below : i < u) (apart : Spread ps u) where
  -- e is added in one of them
  pub sum_member :
      (a : List ℕ) (t : ℕ) → t < length ps → get_or ps t 0 + u ≤ length a → sum_at (add_at a (get_or ps t 0 + o) e) ps i ≡ bit_xor (sum_at a ps i) (laid o e i)
  sum_member a t l k =
      sum_one (get_or ps t 0) o u e i fits below a ps t l refl k
      (λ (s : ℕ) (m : s < length ps) (n : s ≡ t → ⊥). apart.spread t s l m (λ (z : t ≡ s). n (omega arith)))

  -- in two of them
  pub sum_two :
      (a : List ℕ) (s t : ℕ) → s < length ps → t < length ps → Inside (length a) ps u
      → sum_at (add_at (add_at a (get_or ps s 0 + o) e) (get_or ps t 0 + o) e) ps i ≡ sum_at a ps i
  sum_two a s t m l k =
      sum_member (add_at a (get_or ps s 0 + o) e) t l (rw (length_add_at a (get_or ps s 0 + o) e) (k.inside t l))
      ∙ ap (λ (x : ℕ). bit_xor x (laid o e i)) (sum_member a s m (k.inside s m)) ∙ xor_twice (sum_at a ps i) (laid o e i)
