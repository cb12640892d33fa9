-- The sets by their numbers are the labels' and the diagonals' sets; their units lie in the array and apart. Assumes nothing.
use Prim.Native.Nat.{ℕ, ◌+◌, ◌-◌, ◌*◌, ◌<◌, ◌≤◌}
use mathlib.Core.Path.{◌≡◌, ap, ap₂, subst⁻¹, ◌∙◌}
use mathlib.Core.Logic.{inl, inr}
use mathlib.Core.List.{List}
use native.Mathlib.Omega.{arith}
use lib.Arith.{digits_lt, digits_div, digits_mod}
use lib.ListN.{get_or, length}
use borrow.Author.Tests.{lt-ltb, le-ltb}
use Rattle.counting.specs.Lists.{list_of}
use Rattle.counting.proofs.Lists.{list_of_length, list_of_at}
use Rattle.geometry.specs.declared.Geometry.{Geometry}
use Rattle.geometry.specs.Geometry.{Sound, tuple_sets_of, sets_of, bytes_of}
use Rattle.design.specs.Design.{Laid}
use Rattle.numbering.specs.Numbering.{outer_number, inner_number}
use Rattle.numbering.specs.Ranges.{OuterIn, InnerIn}
use Rattle.numbering.specs.Theorems.{ASet}
use Rattle.cells.specs.declared.Cell.{Cell}
use Rattle.cells.specs.Sets.{outer_member, inner_member}
use Rattle.cells.specs.Ranges.{CellIn}
use Rattle.numbering.proofs.Theorems.{sets_are_numbered}
use Rattle.cells.proofs.Sets.{outer_member_in, inner_member_in}
use Rattle.leaves.specs.Bytes.{Inside, Spread}
use Rattle.array.specs.Array.{cell_start}
use Rattle.array.proofs.Theorems.{each_unit_lies_in_the_array, no_two_units_share_a_byte}
use Rattle.consistent.specs.Consistent.{outer_starts, inner_starts, tuple_set_starts, set_starts}

-- ---- the sets by number
module _ (G : Geometry) where
  -- the number of a set in its tuple is below the tuple's count
  outer_low : (t i c : ℕ) → OuterIn G t i c → i * G.g + c < tuple_sets_of G
  unfolding tuple_sets_of
  outer_low t i c h = let y : i * G.g + c < (G.g - 1) * G.g = digits_lt h.row h.column in omega arith

  inner_low : (t l j : ℕ) → InnerIn G t l j → (G.g - 1) * G.g + l * G.g + j < tuple_sets_of G
  unfolding tuple_sets_of
  inner_low t l j h = let y : l * G.g + j < G.k * G.g = digits_lt h.position h.diagonal in omega arith

module _ (G : Geometry) (d : List ℕ) where
  -- within a tuple: the outer sets come before the inner ones
  tuple_outer : (t i c : ℕ) → OuterIn G t i c → tuple_set_starts G d t (i * G.g + c) ≡ outer_starts G d t i c
  unfolding tuple_set_starts
  tuple_outer t i c h =
      rw (
        lt-ltb (i * G.g + c) ((G.g - 1) * G.g) (digits_lt h.row h.column),
        digits_div i h.column,
        digits_mod i h.column,
      )

  tuple_inner :
      (t l j : ℕ) → InnerIn G t l j → tuple_set_starts G d t ((G.g - 1) * G.g + l * G.g + j) ≡ inner_starts G d t l j
  unfolding tuple_set_starts
  tuple_inner t l j h =
      let past : (G.g - 1) * G.g ≤ (G.g - 1) * G.g + l * G.g + j = omega arith in
      let rest : (G.g - 1) * G.g + l * G.g + j - (G.g - 1) * G.g ≡ l * G.g + j = omega arith in
      rw (
        le-ltb ((G.g - 1) * G.g + l * G.g + j) ((G.g - 1) * G.g) past,
        rest,
        digits_div l h.diagonal,
        digits_mod l h.diagonal,
      )

  -- the digits of a set's number are its tuple and its number there
  set_of_digits : (t x : ℕ) → x < tuple_sets_of G → set_starts G d (t * tuple_sets_of G + x) ≡ tuple_set_starts G d t x
  unfolding set_starts
  set_of_digits t x h = ap₂ (tuple_set_starts G d) (digits_div t h) (digits_mod t h)

module _ (G : Geometry) (s : Sound G) (d : List ℕ) where
  pub set_starts_outer : (t i c : ℕ) → OuterIn G t i c → set_starts G d (outer_number G t i c) ≡ outer_starts G d t i c
  unfolding outer_number
  set_starts_outer t i c h = set_of_digits G d t (i * G.g + c) (outer_low G t i c h) ∙ tuple_outer G d t i c h

  pub set_starts_inner : (t l j : ℕ) → InnerIn G t l j → set_starts G d (inner_number G t l j) ≡ inner_starts G d t l j
  unfolding inner_number
  set_starts_inner t l j h =
      set_of_digits G d t ((G.g - 1) * G.g + l * G.g + j) (inner_low G t l j h) ∙ tuple_inner G d t l j h

  -- what holds of the labels' and of the diagonals' sets holds of every set
  pub every_set :
      (P : List ℕ → Type 0) → ((t i c : ℕ) → OuterIn G t i c → P (outer_starts G d t i c))
      → ((t l j : ℕ) → InnerIn G t l j → P (inner_starts G d t l j)) → (n : ℕ) → n < sets_of G → P (set_starts G d n)
  every_set P o q n h = go ((sets_are_numbered G s).every n h)
    where
      go : ASet G n → P (set_starts G d n)
      go (inl (t, i, c, v, e)) = subst⁻¹ P (ap (set_starts G d) e ∙ set_starts_outer t i c v) (o t i c v)
      go (inr (t, l, j, v, e)) = subst⁻¹ P (ap (set_starts G d) e ∙ set_starts_inner t l j v) (q t l j v)

-- ---- the units of the first n cells of a family f
module _ (G : Geometry) (d : List ℕ) (f : ℕ → Cell) (n : ℕ) where
  abbrev pub cell_starts : List ℕ
  cell_starts = list_of (λ (l : ℕ). cell_start G d (f l)) n

  pub starts_length : length cell_starts ≡ n
  starts_length = list_of_length (λ (l : ℕ). cell_start G d (f l)) n

  pub start_at : (l : ℕ) → l < n → get_or cell_starts l 0 ≡ cell_start G d (f l)
  start_at l h = list_of_at (λ (l : ℕ). cell_start G d (f l)) n l 0 h

  pub start_low : (l : ℕ) → l < length cell_starts → l < n
  start_low l h = omega (arith, starts_length)

  module _ (L : Laid G d) (v : (l : ℕ) → l < n → CellIn G (f l)) where
    pub cells_inside : (m : ℕ) → m ≡ bytes_of G → Inside m cell_starts G.u
    cells_inside m e =
        record {
          inside = λ l h.
              let q : l < n = start_low l h in
              rw (start_at l q, e) (each_unit_lies_in_the_array G d L (f l) (v l q));
        }

    pub cells_spread : ((l m : ℕ) → l < n → m < n → f l ≡ f m → l ≡ m) → Spread cell_starts G.u
    cells_spread only =
        record {
          spread = λ l m h k ne.
              let p : l < n = start_low l h in
              let q : m < n = start_low m k in
              rw (start_at l p, start_at m q)
              (no_two_units_share_a_byte G d L (f l) (f m) (v l p) (v m q) (λ e. ne (only l m p q e)));
        }

-- ---- the units of a set
module _ (G : Geometry) (d : List ℕ) where
  pub outer_length : (t i c : ℕ) → length (outer_starts G d t i c) ≡ G.k
  unfolding outer_starts
  outer_length t i c = starts_length G d (outer_member G t i c) G.k

  pub inner_length : (t l j : ℕ) → length (inner_starts G d t l j) ≡ G.g
  unfolding inner_starts
  inner_length t l j = starts_length G d (inner_member G t l j) G.g

  pub outer_start_at :
      (t i c l : ℕ) → l < G.k → get_or (outer_starts G d t i c) l 0 ≡ cell_start G d (outer_member G t i c l)
  unfolding outer_starts
  outer_start_at t i c = start_at G d (outer_member G t i c) G.k

  pub inner_start_at :
      (t l j i : ℕ) → i < G.g → get_or (inner_starts G d t l j) i 0 ≡ cell_start G d (inner_member G t l j i)
  unfolding inner_starts
  inner_start_at t l j = start_at G d (inner_member G t l j) G.g

module _ (G : Geometry) (d : List ℕ) (L : Laid G d) where
  pub outer_inside :
      (t i c : ℕ) → OuterIn G t i c → (n : ℕ) → n ≡ bytes_of G → Inside n (outer_starts G d t i c) G.u
  unfolding outer_starts
  outer_inside t i c v =
      cells_inside G d (outer_member G t i c) G.k L (λ l h. outer_member_in G L.sound t i c l v h)

  pub inner_inside :
      (t l j : ℕ) → InnerIn G t l j → (n : ℕ) → n ≡ bytes_of G → Inside n (inner_starts G d t l j) G.u
  unfolding inner_starts
  inner_inside t l j v =
      cells_inside G d (inner_member G t l j) G.g L (λ i h. inner_member_in G L.sound t l j i v h)

  -- units at two positions, or in two rows, are two
  pub outer_spread : (t i c : ℕ) → OuterIn G t i c → Spread (outer_starts G d t i c) G.u
  unfolding outer_starts
  outer_spread t i c v =
      cells_spread G d (outer_member G t i c) G.k L (λ l h. outer_member_in G L.sound t i c l v h)
      (λ l m p q. ap (λ (x : Cell). x.position))

  pub inner_spread : (t l j : ℕ) → InnerIn G t l j → Spread (inner_starts G d t l j) G.u
  unfolding inner_starts
  inner_spread t l j v =
      cells_spread G d (inner_member G t l j) G.g L (λ i h. inner_member_in G L.sound t l j i v h)
      (λ i m p q. ap (λ (x : Cell). x.row))
