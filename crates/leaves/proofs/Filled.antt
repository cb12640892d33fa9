-- A loop that stores the bytes of f over those of a list, from the first on. Assumes nothing.
use Prim.Native.Nat.{ℕ, zero, suc, ◌+◌, ◌≤◌, ◌<◌}
use mathlib.Core.Path.{◌≡◌, refl, sym, ◌∙◌, ap}
use mathlib.Core.List.{List, [], ◌∷◌, ◌++◌}
use native.Mathlib.Numerals.{add-one}
use native.Mathlib.Omega.{arith}
use lib.ListN.{get_or, length, set, take, drop, length-set, take-append-drop, drop_of_length-le}
use lib.Bits.{bit_xor}
use Rattle.leaves.specs.Bytes.{xors}
use Rattle.leaves.proofs.Runs.{length_xors, at_xors}

-- the bytes at i: f's, then those of d₀
pub record Filled (d₀ f d : List ℕ) (i : ℕ) : Type 0 where
  pub whole : length f ≡ length d₀
  pub long : length d ≡ length d₀
  pub is : d ≡ take i f ++ drop i d₀

pub filled_none : (d f : List ℕ) → length f ≡ length d → Filled d f d 0
filled_none d f h = record { whole = h; long = refl; is = refl }

filled_suc :
    (d f : List ℕ) (i : ℕ) → i < length d → i < length f
    → set (take i f ++ drop i d) i (get_or f i 0) ≡ take (suc i) f ++ drop (suc i) d
filled_suc [] f i h k = absurd (omega arith)
filled_suc (x ∷ d) [] i h k = absurd (omega arith)
filled_suc (x ∷ d) (y ∷ f) zero h k = refl
filled_suc (x ∷ d) (y ∷ f) (suc i) h k = ap (λ (l : List ℕ). y ∷ l) (filled_suc d f i (omega arith) (omega arith))

pub filled_more :
    {d₀ f d : List ℕ} {i : ℕ} → Filled d₀ f d i → i < length d₀ → (v : ℕ) → v ≡ get_or f i 0 → Filled d₀ f (set d i v) (i + 1)
filled_more {d₀} {f} {d} {i} s h v e = record {
  whole = s.whole;
  long = length-set d i v ∙ s.long;
  is = rw (s.is, e, add-one i) (filled_suc d₀ f i h (omega (arith, s.whole)));
}

-- what is read at i is what was there first
filled_old : (d f : List ℕ) (i : ℕ) → length f ≡ length d → get_or (take i f ++ drop i d) i 0 ≡ get_or d i 0
filled_old [] [] zero h = refl
filled_old [] [] (suc i) h = refl
filled_old [] (y ∷ f) i h = absurd (omega arith)
filled_old (x ∷ d) [] i h = absurd (omega arith)
filled_old (x ∷ d) (y ∷ f) zero h = refl
filled_old (x ∷ d) (y ∷ f) (suc i) h = filled_old d f i (omega arith)

pub filled_at : {d₀ f d : List ℕ} {i : ℕ} → Filled d₀ f d i → get_or d i 0 ≡ get_or d₀ i 0
filled_at {d₀} {f} {d} {i} s = rw s.is (filled_old d₀ f i s.whole)

-- at the end it is f, where f is d₀ from there on
pub filled_rest : {d₀ f d : List ℕ} {i : ℕ} → Filled d₀ f d i → drop i f ≡ drop i d₀ → d ≡ f
filled_rest {d₀} {f} {d} {i} s e = s.is ∙ ap (λ (l : List ℕ). take i f ++ l) (sym e) ∙ take-append-drop i f

pub filled_all : {d₀ f d : List ℕ} {i : ℕ} → Filled d₀ f d i → length d₀ ≤ i → d ≡ f
filled_all {d₀} {f} {d} {i} s h =
    filled_rest s (drop_of_length-le f {i = i} (omega (arith, s.whole)) ∙ sym (drop_of_length-le d₀ h))

-- past the second list XOR changes nothing
pub drop_xors : (x y : List ℕ) (n : ℕ) → length y ≤ n → drop n (xors x y) ≡ drop n x
unfolding xors
drop_xors [] y n h = refl
drop_xors (a ∷ x) [] n h = refl
drop_xors (a ∷ x) (b ∷ y) zero h = absurd (omega arith)
drop_xors (a ∷ x) (b ∷ y) (suc n) h = drop_xors x y n (omega arith)

-- a turn of the loop that XORs
pub filled_xor :
    {d₀ d : List ℕ} {i : ℕ} (y : List ℕ) → Filled d₀ (xors d₀ y) d i → i < length y → length y ≤ length d₀
    → Filled d₀ (xors d₀ y) (set d i (bit_xor (get_or d i 0) (get_or y i 0))) (i + 1)
filled_xor {d₀} {d} {i} y s h k =
    filled_more s (omega arith) (bit_xor (get_or d i 0) (get_or y i 0))
    (ap (λ (x : ℕ). bit_xor x (get_or y i 0)) (filled_at s) ∙ sym (at_xors d₀ y i (omega arith)))

-- one that stores XORs
pub filled_difference :
    {d₀ d : List ℕ} {i : ℕ} (x y : List ℕ) → Filled d₀ (xors x y) d i → i < length d₀ → Filled d₀ (xors x y) (set d i (bit_xor (get_or x i 0) (get_or y i 0))) (i + 1)
filled_difference {d₀} {d} {i} x y s h = filled_more s h _ (sym (at_xors x y i (omega (arith, s.whole, length_xors x y))))
