-- Tests joined by "and" and "or". Assumes nothing.
use mathlib.Core.Path.{◌≡◌, refl}
use mathlib.Core.Bool.{Bool, true, false, not, ◌&&◌, ◌||◌}
use mathlib.Core.Logic.{◌⊎◌, inl, inr}
use Prim.Native.Nat.{ℕ}
use native.Mathlib.Omega.{arith}

pub bool_either : (b : Bool) → (b ≡ true) ⊎ (b ≡ false)
bool_either true = inl refl
bool_either false = inr refl

-- no test both passes and fails
pub bool_not_both : {X : Type 0} (b : Bool) → b ≡ true → b ≡ false → X
bool_not_both b p q = absurd (let z : true ≡ false = cc in let e : ◌≡◌ {A = ℕ} 0 1 = cc in omega arith)

pub and_both : (a b : Bool) → (a && b) ≡ true → (a ≡ true) × (b ≡ true)
and_both true b h = (refl, h)
and_both false b h = bool_not_both false h refl

pub both_and : (a b : Bool) → a ≡ true → b ≡ true → (a && b) ≡ true
both_and a b p q = rw (p, q)

pub and_left_false : (a b : Bool) → a ≡ false → (a && b) ≡ false
and_left_false a b p = rw p

pub and_right_false : (a b : Bool) → b ≡ false → (a && b) ≡ false
and_right_false true b q = q
and_right_false false b q = refl

pub or_one : (a b : Bool) → (a || b) ≡ true → (a ≡ true) ⊎ (b ≡ true)
or_one true b h = inl refl
or_one false b h = inr h

pub or_none : (a b : Bool) → (a || b) ≡ false → (a ≡ false) × (b ≡ false)
or_none true b h = bool_not_both true refl h
or_none false b h = (refl, h)

pub none_or : (a b : Bool) → a ≡ false → b ≡ false → (a || b) ≡ false
none_or a b p q = rw (p, q)

pub left_or : (a b : Bool) → a ≡ true → (a || b) ≡ true
left_or a b p = rw p

pub right_or : (a b : Bool) → b ≡ true → (a || b) ≡ true
right_or true b q = refl
right_or false b q = q

pub not_is_true : (b : Bool) → b ≡ false → not b ≡ true
not_is_true b p = rw p

pub not_is_false : (b : Bool) → b ≡ true → not b ≡ false
not_is_false b p = rw p
