-- The answer of 10 and 11 from their tests. Assumes nothing.
use Prim.Native.Nat.{ℕ, ◌+◌, ◌-◌, ◌≤◌, ◌<◌}
use mathlib.Core.Path.{◌≡◌, sym, ◌∙◌}
use mathlib.Core.Bool.{true, false}
use native.Mathlib.Decide.{dec_lt}
use native.Mathlib.Omega.{arith}
use lib.Dec.{ltb}
use borrow.Author.Tests.{lt-ltb, le-ltb, le-leb, lt-leb, leb-false, ltb-false}
use Rattle.refusal.specs.Refusal.{refused, accepted, verdict}
use Rattle.refusal.proofs.Answer.{accepted_quiet}
use Rattle.geometry.specs.declared.Geometry.{Geometry}
use Rattle.geometry.specs.Geometry.{user_units_of}
use Rattle.array.specs.Rules.{range_rules}

-- the sum of offset and length is not made: it might not fit
pub range_leaves : (u o n : ℕ) → o ≤ u → ltb (u - o) n ≡ ltb u (o + n)
range_leaves u o n h = go (dec_lt u (o + n))
  where
    go : Dec (u < o + n) → ltb (u - o) n ≡ ltb u (o + n)
    go (yes l) = lt-ltb (u - o) n (omega arith) ∙ sym (lt-ltb u (o + n) l)
    go (no l) = le-ltb (u - o) n (omega arith) ∙ sym (le-ltb u (o + n) (omega arith))

module _ (G : Geometry) (m o n : ℕ) where
  pub range_ten : user_units_of G ≤ m → verdict (range_rules G m o n) ≡ refused 10 0
  range_ten h = rw (le-leb (user_units_of G) m h)

  pub range_eleven : m < user_units_of G → ltb G.u (o + n) ≡ true → verdict (range_rules G m o n) ≡ refused 11 0
  range_eleven h e = rw (lt-leb (user_units_of G) m h, e)

  pub range_fine : m < user_units_of G → ltb G.u (o + n) ≡ false → verdict (range_rules G m o n) ≡ accepted tt
  range_fine h e = rw (lt-leb (user_units_of G) m h, e)

  -- a user unit, and bytes of it
  pub record Ranged : Type 0 where
    pub user : m < user_units_of G
    pub inside : o + n ≤ G.u

  pub ranged : verdict (range_rules G m o n) ≡ accepted tt → Ranged
  ranged e =
      let q = accepted_quiet (range_rules G m o n) tt tt e in
      record { user = leb-false (user_units_of G) m q.0; inside = ltb-false G.u (o + n) q.1.0 }
