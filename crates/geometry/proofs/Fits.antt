-- A number times a base of at most 13, a group's largest size, fits 32 bits. Assumes nothing.
use Prim.Native.Nat.{ℕ, ◌*◌, ◌≤◌}
use native.Mathlib.Omega.{arith}
use native.Mathlib.Nat.{mul-le-mul}
use mir.Syntax.{w32}
use mir.Val.{Fits}

pub product_fits : (a m : ℕ) → a ≤ 1100000 → m ≤ 13 → Fits w32 (a * m)
product_fits a m high base = omega (arith, mul-le-mul high base)
