-- A visit by its cases: which set restores a cell, and what flags and log become. Assumes nothing.
use Prim.Native.Nat.{ℕ, ◌+◌, ◌*◌, ◌≤◌, ◌<◌}
use mathlib.Core.Path.{◌≡◌}
use mathlib.Core.Bool.{Bool, true, false}
use mathlib.Core.List.{List}
use native.Mathlib.Omega.{arith}
use lib.ListN.{length, set}
use Rattle.std.specs.Prelude.{Option, Some, None}
use Rattle.geometry.specs.declared.Geometry.{Geometry}
use Rattle.geometry.specs.Geometry.{Sound}
use Rattle.cells.specs.declared.Cell.{Cell}
use Rattle.peeling.specs.Peeling.{Side, lacks_only}
use Rattle.reaching.specs.Reach.{tuple_cells_of, cell_numbered, inner_side}
use Rattle.reaching.specs.declared.Kind.{Kind}
use Rattle.reaching.specs.declared.Kind.TheVariants.{Outer, Inner}
use Rattle.reaching.specs.State.{State, state, seen, Room, outer_restores, kind_of, kind_number, restored_by, visited}
use Rattle.reaching.proofs.Members.{product_le}
use Rattle.reaching.proofs.Turns.{missing_set}

-- a tuple has at most 10·13·13 cells
pub cells_few : (G : Geometry) → Sound G → tuple_cells_of G ≤ 1690
unfolding tuple_cells_of
cells_few G s =
    let a : G.k * G.g ≤ 10 * 13 = product_le G.k G.g 10 13 (omega arith) (omega arith) in
    product_le (G.k * G.g) G.g (10 * 13) 13 a (omega arith)

-- ---- which set

module _ (G : Geometry) (t : ℕ) (present : ℕ → Bool) (n : ℕ) (x : Cell) (e : x ≡ cell_numbered G t n) (b : Bool) (d : b ≡ outer_restores G present x) where
  pub kind_outer : b ≡ true → Some Outer ≡ kind_of G t present n
  unfolding kind_of
  kind_outer p = rw (← e, ← d, p)

  module _ (p : b ≡ false) (v : Side) (q : v ≡ inner_side G x) (r : Bool) (w : r ≡ lacks_only present v) where
    pub kind_inner : r ≡ true → Some Inner ≡ kind_of G t present n
    unfolding kind_of
    kind_inner z = rw (← e, ← d, p, ← q, ← w, z)

    pub kind_neither : r ≡ false → None ≡ kind_of G t present n
    unfolding kind_of
    kind_neither z = rw (← e, ← d, p, ← q, ← w, z)

-- ---- what becomes of the state

-- a missing cell has room in the log
pub room_for : (G : Geometry) (s : State) (n : ℕ) → Room G s → n < tuple_cells_of G → seen s.flags n ≡ false → s.count < length s.log
room_for G s n m h p =
    let l : n < length s.flags = omega (arith, m.flags) in
    omega (arith, missing_set s.flags n l p, m.log)

module _ (G : Geometry) (t n : ℕ) (flags : List Bool) (log : List ℕ) (count : ℕ) where
  pub visit_present : seen flags n ≡ true → state flags log count ≡ visited G t n (state flags log count)
  unfolding visited
  visit_present p = rw p

  module _ (p : seen flags n ≡ false) (found : Option Kind) (e : found ≡ kind_of G t (seen flags) n) where
    pub visit_stuck : found ≡ None → state flags log count ≡ visited G t n (state flags log count)
    unfolding visited
    visit_stuck z = rw (p, ← e, z)

    pub visit_restores :
        (kind : Kind) → found ≡ Some kind
        → state (set flags n true) (set log count (2 * n + kind_number kind)) (count + 1) ≡ visited G t n (state flags log count)
    unfolding visited restored_by
    visit_restores kind z = rw (p, ← e, z)
