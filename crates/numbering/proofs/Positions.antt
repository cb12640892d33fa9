-- The data regions of a tuple, counted over the positions other than the parity's, wherever that stands.
use Prim.Native.Nat.{ℕ, suc, pred, ◌-◌, ◌<◌, ◌≤◌}
use mathlib.Core.Path.{◌≡◌, refl}
use mathlib.Core.Bool.{Bool, true, false, cond}
use native.Mathlib.Omega.{arith}
use lib.Dec.{ltb}
use borrow.Author.Tests.{ltb-true, ltb-false, lt-ltb, le-ltb}
use Rattle.geometry.specs.declared.Geometry.{Geometry}
use Rattle.numbering.specs.Positions.{parity_position, data_position, data_number}

-- the m-th number other than w, and which one l is
abbrev skip : ℕ → ℕ → ℕ
skip w m = cond (ltb m w) m (suc m)

abbrev fill : ℕ → ℕ → ℕ
fill w l = cond (ltb l w) l (pred l)

-- what holds of the m-th number other than w
record Skipped (w m : ℕ) : Type 0 where
  back : fill w (skip w m) ≡ m
  other : skip w m ≡ w → ⊥
  low : skip w m ≤ suc m

skipped : (w m : ℕ) → Skipped w m
skipped w m = go (ltb m w) refl
  where
    go : (b : Bool) → ltb m w ≡ b → Skipped w m
    go true e =
        let h : m < w = ltb-true m w e in
        record { back = rw (e, e); other = rw e (omega arith); low = rw e (omega arith) }
    go false e =
        let h : w ≤ m = ltb-false m w e in
        record { back = rw (e, le-ltb (suc m) w (omega arith)); other = rw e (omega arith); low = rw e (omega arith) }

-- what holds of a number l other than w
record Filled (w l : ℕ) : Type 0 where
  back : skip w (fill w l) ≡ l
  low : (k : ℕ) → w < k → l < k → fill w l < k - 1

filled : (w l : ℕ) → (l ≡ w → ⊥) → Filled w l
filled w l ne = go (ltb l w) refl
  where
    go : (b : Bool) → ltb l w ≡ b → Filled w l
    go true e =
        let h : l < w = ltb-true l w e in
        record { back = rw (e, e); low = rw e (omega arith) }
    go false e =
        let h : w ≤ l = ltb-false l w e in
        let p : suc (pred l) ≡ l = omega arith in
        record { back = rw (e, le-ltb (pred l) w (omega arith)) p; low = rw e (omega arith) }

-- the one law of the parity's position: it is a position
pub parity_position_lt : (G : Geometry) (t : ℕ) → 0 < G.k → parity_position G t < G.k
unfolding parity_position
parity_position_lt G t h = omega arith

-- the m-th data region stands at a position, other than the parity's
pub data_position_lt : (G : Geometry) (t m : ℕ) → m < G.k - 1 → data_position G t m < G.k
unfolding data_position
data_position_lt G t m h = omega (arith, (skipped (parity_position G t) m).low)

pub data_position_other : (G : Geometry) (t m : ℕ) → data_position G t m ≡ parity_position G t → ⊥
unfolding data_position
data_position_other G t m = (skipped (parity_position G t) m).other

-- region and position are inverse
pub number_of_position : (G : Geometry) (t m : ℕ) → data_number G t (data_position G t m) ≡ m
unfolding data_position data_number
number_of_position G t m = (skipped (parity_position G t) m).back

pub position_of_number :
    (G : Geometry) (t l : ℕ) → (l ≡ parity_position G t → ⊥) → data_position G t (data_number G t l) ≡ l
unfolding data_position data_number
position_of_number G t l h = (filled (parity_position G t) l h).back

pub data_number_lt :
    (G : Geometry) (t l : ℕ) → 0 < G.k → l < G.k → (l ≡ parity_position G t → ⊥) → data_number G t l < G.k - 1
unfolding data_number
data_number_lt G t l p h n = (filled (parity_position G t) l n).low G.k (parity_position_lt G t p) h

-- with the parity at position k-1 the m-th data region stands at position m
pub data_position_lem : (G : Geometry) (t m : ℕ) → m < G.k - 1 → data_position G t m ≡ m
unfolding data_position parity_position
data_position_lem G t m h = rw (lt-ltb m (G.k - 1) h)
