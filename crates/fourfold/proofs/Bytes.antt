-- One list of bytes XORed in at several positions that lie apart, byte by byte. Assumes nothing.
use Prim.Native.Nat.{ℕ, zero, suc, ◌+◌, ◌≤◌, ◌<◌}
use mathlib.Core.Path.{◌≡◌, refl, ap, ◌∙◌}
use mathlib.Core.Logic.{◌⊎◌, inl, inr, ⊎_elim}
use mathlib.Core.List.{List, [], ◌∷◌}
use native.Mathlib.Omega.{arith}
use lib.Bits.{bit_xor}
use lib.ListN.{get_or, length}
use Rattle.leaves.specs.Bytes.{run, add_at, add_all, difference_at, Apart, Inside, Spread}
use Rattle.leaves.proofs.Runs.{at_xors, at_run, length_run, length_add_at, add_at_in, add_at_out, apart_sym}

-- ---- what holds of each position of a list
abbrev pub Each : (ℕ → Type 0) → List ℕ → Type 0
Each P ps = (t : ℕ) → t < length ps → P (get_or ps t 0)

-- one after the other
abbrev pub All : (ℕ → Type 0) → List ℕ → Type 0
All P [] = Unit {0}
All P (p ∷ ps) = P p × All P ps

pub all_each : (P : ℕ → Type 0) (ps : List ℕ) → All P ps → Each P ps
all_each P [] h t l = absurd (omega arith)
all_each P (p ∷ ps) h zero l = h.0
all_each P (p ∷ ps) h (suc t) l = all_each P ps h.1 t (omega arith)

-- each with all that come behind it
abbrev pub AllApart : ℕ → List ℕ → Type 0
AllApart n [] = Unit {0}
AllApart n (p ∷ ps) = All (λ (q : ℕ). Apart p n q n) ps × AllApart n ps

pub all_spread : (n : ℕ) (ps : List ℕ) → AllApart n ps → Spread ps n
all_spread n ps h = record { spread = go ps h }
  where
    go :
        (ps : List ℕ) → AllApart n ps → (s t : ℕ) → s < length ps → t < length ps → (s ≡ t → ⊥)
        → Apart (get_or ps s 0) n (get_or ps t 0) n
    go [] h s t i j differ = absurd (omega arith)
    go (p ∷ ps) h zero zero i j differ = absurd (differ refl)
    go (p ∷ ps) h zero (suc t) i j differ = all_each (λ (q : ℕ). Apart p n q n) ps h.0 t (omega arith)
    go (p ∷ ps) h (suc s) zero i j differ = apart_sym (all_each (λ (q : ℕ). Apart p n q n) ps h.0 s (omega arith))
    go (p ∷ ps) h (suc s) (suc t) i j differ = go ps h.1 s t (omega arith) (omega arith) (λ (e : s ≡ t). differ (ap suc e))

-- ---- a byte of none of the runs, and a byte of one
-- byte i is none of the n bytes from q on
abbrev pub Off : (n i q : ℕ) → Type 0
Off n i q = (i < q) ⊎ (q + n ≤ i)

apart_off : (p q n j : ℕ) → j < n → Apart p n q n → Off n (p + j) q
apart_off p q n j l h = ⊎_elim (λ (k : p + n ≤ q). inl (omega arith)) (λ (k : q + n ≤ p). inr (omega arith)) h.apart

pub add_all_off : (a ps e : List ℕ) (i : ℕ) → Each (Off (length e) i) ps → get_or (add_all a ps e) i 0 ≡ get_or a i 0
unfolding add_all
add_all_off a [] e i h = refl
add_all_off a (p ∷ ps) e i h =
    add_all_off (add_at a p e) ps e i (λ (t : ℕ) (l : t < length ps). h (suc t) (omega arith))
    ∙ add_at_out a p e i (h 0 (omega arith))

pub add_all_in :
    (a ps e : List ℕ) → Spread ps (length e) → Inside (length a) ps (length e) → (j : ℕ) → j < length e → (t : ℕ) → t < length ps
    → get_or (add_all a ps e) (get_or ps t 0 + j) 0 ≡ bit_xor (get_or a (get_or ps t 0 + j) 0) (get_or e j 0)
unfolding add_all
add_all_in a [] e s i j l t k = absurd (omega arith)
add_all_in a (p ∷ ps) e s i j l zero k =
    add_all_off (add_at a p e) ps e (p + j)
    (λ (t : ℕ) (h : t < length ps).
    apart_off p (get_or ps t 0) (length e) j l (s.spread 0 (suc t) (omega arith) (omega arith) (λ (q : 0 ≡ suc t). omega arith)))
    ∙ add_at_in a p e j (omega (arith, i.inside 0 (omega arith)))
add_all_in a (p ∷ ps) e s i j l (suc t) k =
    add_all_in (add_at a p e) ps e
    (record {
      spread = λ (x y : ℕ) (hx : x < length ps) (hy : y < length ps) (n : x ≡ y → ⊥).
          s.spread (suc x) (suc y) (omega arith) (omega arith) (λ (q : suc x ≡ suc y). n (omega arith));
    })
    (record {
      inside = λ (x : ℕ) (h : x < length ps). rw (length_add_at a p e) (i.inside (suc x) (omega arith));
    })
    j l t (omega arith)
    ∙ ap (λ (x : ℕ). bit_xor x (get_or e j 0))
    (add_at_out a p e (get_or ps t 0 + j)
    (apart_off (get_or ps t 0) p (length e) j l (s.spread (suc t) 0 (omega arith) (omega arith) (λ (q : suc t ≡ 0). omega arith))))

-- the difference of old and new bytes
pub at_difference :
    (a : List ℕ) (p : ℕ) (new : List ℕ) → p + length new ≤ length a → (j : ℕ) → j < length new
    → get_or (difference_at a p new) j 0 ≡ bit_xor (get_or a (p + j) 0) (get_or new j 0)
at_difference a p new h j l =
    at_xors (run a p (length new)) new j (rw (length_run a p (length new) h) l)
    ∙ ap (λ (x : ℕ). bit_xor x (get_or new j 0)) (at_run a p (length new) j l)

-- a range inside one of two units that lie apart
pub apart_within : (p q u o n : ℕ) → o + n ≤ u → Apart p u q u → Apart (p + o) n q u
apart_within p q u o n h k =
    record { apart = ⊎_elim (λ (l : p + u ≤ q). inl (omega arith)) (λ (l : q + u ≤ p). inr (omega arith)) k.apart }
