-- The XOR of a set's bytes and all of them but one give that one. Assumes nothing.
use Prim.Native.Nat.{ℕ, zero, suc, ◌+◌, ◌<◌}
use mathlib.Core.Path.{◌≡◌, refl, sym, ap, ap₂, ◌∙◌}
use mathlib.Core.List.{List, [], ◌∷◌}
use native.Mathlib.Omega.{arith}
use lib.Bits.{bit_xor}
use lib.ListN.{get_or, length}
use Rattle.leaves.specs.Bytes.{sum_at}
use Rattle.leaves.proofs.Xor.{xor_cancel, xor_twice}

xor_left : (x y z : ℕ) → bit_xor x y ≡ bit_xor x z → y ≡ z
xor_left x y z e = sym (xor_cancel x y) ∙ ap (bit_xor x) e ∙ xor_cancel x z

pub xor_right : (x y z : ℕ) → bit_xor x z ≡ bit_xor y z → x ≡ y
xor_right x y z e = sym (xor_twice x z) ∙ ap (λ (w : ℕ). bit_xor w z) e ∙ xor_twice y z

module _ (a b : List ℕ) (i : ℕ) where
  -- the bytes at offset i of the t-th run are equal
  abbrev Same : List ℕ → ℕ → Type 0
  Same ps t = get_or a (get_or ps t 0 + i) 0 ≡ get_or b (get_or ps t 0 + i) 0

  pub sum_congruent : (ps : List ℕ) → ((t : ℕ) → t < length ps → Same ps t) → sum_at a ps i ≡ sum_at b ps i
  unfolding sum_at
  sum_congruent [] h = refl
  sum_congruent (p ∷ ps) h =
      ap₂ bit_xor (h 0 (omega arith)) (sum_congruent ps (λ (t : ℕ) (l : t < length ps). h (suc t) (omega arith)))

  pub all_but_one :
      (ps : List ℕ) (q : ℕ) → q < length ps → ((t : ℕ) → t < length ps → (t ≡ q → ⊥) → Same ps t)
      → sum_at a ps i ≡ sum_at b ps i → Same ps q
  unfolding sum_at
  all_but_one [] q l h e = absurd (omega arith)
  all_but_one (p ∷ ps) zero l h e =
      let rest : sum_at a ps i ≡ sum_at b ps i =
      sum_congruent ps (λ (t : ℕ) (m : t < length ps). h (suc t) (omega arith) (λ (z : suc t ≡ 0). omega arith)) in
      xor_right (get_or a (p + i) 0) (get_or b (p + i) 0) (sum_at b ps i) (ap (bit_xor (get_or a (p + i) 0)) (sym rest) ∙ e)
  all_but_one (p ∷ ps) (suc q) l h e =
      let first : get_or a (p + i) 0 ≡ get_or b (p + i) 0 = h 0 (omega arith) (λ (z : 0 ≡ suc q). omega arith) in
      all_but_one ps q (omega arith)
      (λ (t : ℕ) (m : t < length ps) (n : t ≡ q → ⊥). h (suc t) (omega arith) (λ (z : suc t ≡ suc q). n (omega arith)))
      (xor_left (get_or a (p + i) 0) (sum_at a ps i) (sum_at b ps i) (e ∙ ap (λ (x : ℕ). bit_xor x (sum_at b ps i)) (sym first)))
