-- XOR of two numbers, each its own inverse; and when an OR is zero. Assumes nothing.
use Prim.Native.Nat.{ℕ, zero, suc}
use mathlib.Core.Path.{◌≡◌, refl, sym, ◌∙◌, ap}
use mathlib.Core.Bool.{Bool, ◌&&◌}
use native.Mathlib.Omega.{arith}
use lib.Dec.{eqb}
use borrow.Author.Tests.{ne_eqb}
use lib.Bits.{bit_xor, bit_or, xor_comm, xor_self, xor_zero_r, or_add_and, and_le_r}
pub use lib.Bits.{xor_assoc}

pub xor_cancel : (a b : ℕ) → bit_xor a (bit_xor a b) ≡ b
xor_cancel a b = sym (xor_assoc a a b) ∙ ap (λ (x : ℕ). bit_xor x b) (xor_self a)

pub xor_left_comm : (a b c : ℕ) → bit_xor a (bit_xor b c) ≡ bit_xor b (bit_xor a c)
xor_left_comm a b c = sym (xor_assoc a b c) ∙ ap (λ (x : ℕ). bit_xor x c) (xor_comm a b) ∙ xor_assoc b a c

pub xor_swap : (a b c : ℕ) → bit_xor (bit_xor a b) c ≡ bit_xor (bit_xor a c) b
xor_swap a b c = xor_assoc a b c ∙ ap (bit_xor a) (xor_comm b c) ∙ sym (xor_assoc a c b)

pub xor_twice : (a b : ℕ) → bit_xor (bit_xor a b) b ≡ a
xor_twice a b = xor_assoc a b b ∙ ap (bit_xor a) (xor_self b) ∙ xor_zero_r a

-- equal numbers, and no others, XOR to zero
pub xor_zero_same : (a b : ℕ) → bit_xor a b ≡ 0 → a ≡ b
xor_zero_same a b h = sym (xor_zero_r a) ∙ ap (λ (x : ℕ). bit_xor a x) (sym h) ∙ xor_cancel a b

-- an OR is zero exactly if both numbers are
pub or_is_zero : (a b : ℕ) → eqb (bit_or a b) 0 ≡ (eqb a 0 && eqb b 0)
or_is_zero zero b = refl
or_is_zero (suc a) b =
    ne_eqb (bit_or (suc a) b) 0 (λ (h : bit_or (suc a) b ≡ 0). omega (arith, or_add_and (suc a) b, and_le_r (suc a) b))
    ∙ sym (ap (λ (x : Bool). x && eqb b 0) (ne_eqb (suc a) 0 (λ (h : suc a ≡ 0). omega arith)))
