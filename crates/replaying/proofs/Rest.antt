-- The XOR of a set and of its rest, over the bytes of a list and over one number a cell. Assumes nothing.
use Prim.Native.Nat.{ℕ, zero, suc, ◌+◌, ◌<◌}
use mathlib.Core.Path.{◌≡◌, refl, sym, ap, ap₂, ◌∙◌}
use mathlib.Core.List.{List, [], ◌∷◌}
use native.Mathlib.Omega.{arith}
use lib.Bits.{bit_xor}
use lib.ListN.{get_or}
use Rattle.counting.specs.Lists.{list_of}
use Rattle.counting.proofs.Lists.{list_of_suc, list_of_length, list_of_at}
use Rattle.leaves.specs.Bytes.{sum_at}
use Rattle.leaves.proofs.Sums.{sum_append, sum_single}
use Rattle.consistent.proofs.Others.{xor_right}
use Rattle.peeling.specs.Peeling.{Side, rest_sum}
use Rattle.peeling.specs.Theorems.{side_sum}
use Rattle.peeling.proofs.Bytes.{rest_and_own}
use Rattle.restoring.specs.Restore.{rest_of}
use Rattle.restoring.proofs.Restored.{sum_rest}

-- runs that begin at f 0, f 1 and so on; b is the byte at offset j of each of them, by the set's members
module _ (a : List ℕ) (f : ℕ → ℕ) (j : ℕ) (s : Side) (b : ℕ → ℕ) where
  abbrev Alike : ℕ → Type 0
  Alike n = (q : ℕ) → q < n → get_or a (f q + j) 0 ≡ b (s.member q)

  -- the whole set
  pub sum_of_side : (n : ℕ) → Alike n → sum_at a (list_of f n) j ≡ side_sum b s n
  unfolding sum_at list_of
  sum_of_side zero h = refl
  sum_of_side (suc n) h =
      ap (λ (ps : List ℕ). sum_at a ps j) (list_of_suc f n)
      ∙ sum_append a (list_of f n) (f n ∷ []) j
      ∙ ap₂ bit_xor (sum_of_side n (λ q l. h q (omega arith))) (sum_single a (f n) j ∙ h n (omega arith))

  -- all but the own
  pub sum_of_rest : (n : ℕ) → s.own < n → Alike n → sum_at a (rest_of (list_of f n) s.own) j ≡ rest_sum b s n
  sum_of_rest n l h =
      xor_right (sum_at a (rest_of (list_of f n) s.own) j) (rest_sum b s n) (b (s.member s.own))
      (ap (bit_xor (sum_at a (rest_of (list_of f n) s.own) j))
      (sym (ap (λ (p : ℕ). get_or a (p + j) 0) (list_of_at f n s.own 0 l) ∙ h s.own l))
      ∙ sym (sum_rest (list_of f n) s.own (omega (arith, list_of_length f n)) a j)
      ∙ sum_of_side n h
      ∙ rest_and_own b s n l)
