-- The four ranges of a write as positions of the array: inside it, and none shares a byte with another. Assumes nothing.
use Prim.Native.Nat.{ℕ, ◌+◌, ◌≤◌}
use mathlib.Core.Path.{◌≡◌}
use mathlib.Core.List.{List, [], ◌∷◌}
use native.Mathlib.Omega.{arith}
use lib.ListN.{length}
use Rattle.geometry.specs.declared.Geometry.{Geometry}
use Rattle.cells.specs.declared.Cell.{Cell}
use Rattle.cells.specs.Ranges.{CellIn}
use Rattle.cells.specs.Roles.{user_cell, user_outer, inner_of}
use Rattle.cells.proofs.Roles.{user_cell_in}
use Rattle.layout.specs.Places.{place_of, four_of}
use Rattle.layout.proofs.Places.{place_in}
use Rattle.layout.proofs.SameDisk.{inner_of_in}
use Rattle.layout.proofs.Theorems.{the_four_disks_differ}
use Rattle.leaves.specs.Bytes.{Apart, Inside, Spread}
use Rattle.runs.proofs.Writes.{apart_part}
use Rattle.array.specs.Array.{cell_start}
use Rattle.array.proofs.Theorems.{each_unit_lies_in_the_array}
use Rattle.fourfold.specs.Theorems.{Range}
use Rattle.fourfold.proofs.Places.{user_outer_in, disks_apart}
use Rattle.fourfold.proofs.Bytes.{Each, all_each, all_spread}

-- where the range from offset o begins in the data unit of user unit m, its outer parity and their two inner parities
abbrev pub starts : Geometry → List ℕ → (m o : ℕ) → List ℕ
starts G d m o =
    (cell_start G d (user_cell G m) + o)
    ∷ (cell_start G d (user_outer G m) + o)
    ∷ (cell_start G d (inner_of G (user_cell G m)) + o)
    ∷ (cell_start G d (inner_of G (user_outer G m)) + o)
    ∷ []

module _ {G : Geometry} {d a : List ℕ} {m o n : ℕ} (R : Range G d a m o n) where
  pub user_in : CellIn G (user_cell G m)
  user_in = user_cell_in G R.laid.sound m R.user

  pub outer_in : CellIn G (user_outer G m)
  outer_in = user_outer_in G d R.laid m R.user

  pub inner_in : (x : Cell) → CellIn G x → CellIn G (inner_of G x)
  inner_in = inner_of_in G d R.laid

  -- the range in a unit lies in the array
  pub range_in : (x : Cell) → CellIn G x → cell_start G d x + o + n ≤ length a
  range_in x h = omega (arith, each_unit_lies_in_the_array G d R.laid x h, R.inside, R.whole)

  -- the ranges in units on two disks lie apart
  ranges_apart :
      (x y : Cell) → CellIn G x → CellIn G y → ((place_of G d x).disk ≡ (place_of G d y).disk → ⊥)
      → Apart (cell_start G d x + o) n (cell_start G d y + o) n
  unfolding cell_start
  ranges_apart x y h k differ =
      apart_part _ G.u _ o n R.inside
      (disks_apart G (place_of G d x) (place_of G d y) (place_in G d R.laid x h) (place_in G d R.laid y k) differ)

  -- what holds of the range in each of the four units
  pub each_start :
      (P : ℕ → Type 0) → P (cell_start G d (user_cell G m) + o) → P (cell_start G d (user_outer G m) + o)
      → P (cell_start G d (inner_of G (user_cell G m)) + o) → P (cell_start G d (inner_of G (user_outer G m)) + o)
      → Each P (starts G d m o)
  each_start P user outer inner both = all_each P (starts G d m o) (user, (outer, (inner, (both, tt))))

  pub starts_inside : Inside (length a) (starts G d m o) n
  starts_inside =
      record {
        inside =
            each_start (λ (p : ℕ). p + n ≤ length a) (range_in (user_cell G m) user_in) (range_in (user_outer G m) outer_in)
            (range_in (inner_of G (user_cell G m)) (inner_in (user_cell G m) user_in))
            (range_in (inner_of G (user_outer G m)) (inner_in (user_outer G m) outer_in));
      }

  pub starts_spread : Spread (starts G d m o) n
  unfolding four_of
  starts_spread =
      let x = user_cell G m in
      let y = user_outer G m in
      let z = inner_of G x in
      let w = inner_of G y in
      let hz = inner_in x user_in in
      let hw = inner_in y outer_in in
      let e = the_four_disks_differ G d R.laid m R.user in
      all_spread n (starts G d m o) (
        (
          ranges_apart x y user_in outer_in e.user_outer,
          (ranges_apart x z user_in hz e.user_inner, (ranges_apart x w user_in hw e.user_both, tt)),
        ),
        (
          (ranges_apart y z outer_in hz e.outer_inner, (ranges_apart y w outer_in hw e.outer_both, tt)),
          ((ranges_apart z w hz hw e.inner_both, tt), (tt, tt)),
        ),
      )
