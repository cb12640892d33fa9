-- A write leaves each set as it was: its four units stand in the sets in pairs, so that the difference cancels. Assumes
-- nothing.
use Prim.Native.Nat.{ℕ, ◌+◌, ◌≤◌, ◌<◌}
use mathlib.Core.Path.{◌≡◌, refl, sym, ap, ◌∙◌}
use mathlib.Core.Logic.{inl, inr}
use mathlib.Core.List.{List, map}
use native.Mathlib.Decide.{ℕ_discrete}
use native.Mathlib.Omega.{arith}
use lib.ListN.{length}
use Rattle.geometry.specs.declared.Geometry.{Geometry}
use Rattle.geometry.specs.Geometry.{Sound, user_units_of, bytes_of}
use Rattle.design.specs.Design.{Laid}
use Rattle.numbering.specs.Ranges.{OuterIn, InnerIn}
use Rattle.cells.specs.declared.Cell.{Cell}
use Rattle.cells.specs.Cells.{diagonal_of}
use Rattle.cells.specs.Sets.{InOuter, InInner}
use Rattle.cells.specs.Ranges.{CellIn}
use Rattle.cells.specs.Roles.{user_cell, user_outer, inner_of}
use Rattle.numbering.proofs.Numbering.{digits_in}
use Rattle.cells.proofs.Sets.{diagonal_in, on_diagonal, parity_in}
use Rattle.cells.proofs.Roles.{user_cell_in, outer_cell_in}
use Rattle.cells.proofs.Theorems.{each_unit_in_one_inner_set, each_labelled_unit_in_one_outer_set}
use Rattle.cells.proofs.Theorems.{the_last_row_in_no_outer_set}
use Rattle.layout.proofs.SameDisk.{inner_of_in}
use Rattle.layout.proofs.Theorems.{the_roles_of_the_four_places}
use Rattle.leaves.specs.Bytes.{run, add_all, zero_sum}
use Rattle.leaves.proofs.Runs.{length_xors, length_run}
use Rattle.leaves.proofs.Zeros.{zero_same}
use Rattle.array.specs.Array.{cell_start}
use Rattle.array.proofs.Theorems.{each_unit_lies_in_the_array}
use Rattle.consistent.specs.Consistent.{outer_starts, inner_starts, set_zero}
use Rattle.consistent.proofs.Numbers.{every_set, outer_inside, inner_inside, outer_spread, inner_spread}
use Rattle.reading.specs.Reading.{read_of}
use Rattle.fourfold.specs.Writing.{write_cells, difference_of, write_of}
use Rattle.fourfold.specs.Theorems.{Range}
use Rattle.fourfold.specs.Theorems.{AWriteLeavesEachSetAsItWas, AWriteKeepsAConsistentArrayConsistent}
use Rattle.fourfold.proofs.Members.{UnitsTogether, BothOrNeither, outer_together, inner_together}
use Rattle.fourfold.proofs.Members.{pairs_keep, crossed_pairs_keep}

-- the set (a,b,c) is the set (p,q,r)
abbrev Same : (a b c p q r : ℕ) → Type 0
Same a b c p q r = (a ≡ p) × (b ≡ q) × (c ≡ r)

same : (a b c p q r : ℕ) → Dec (Same a b c p q r)
same a b c p q r = go (ℕ_discrete a p) (ℕ_discrete b q) (ℕ_discrete c r)
  where
    go : Dec (a ≡ p) → Dec (b ≡ q) → Dec (c ≡ r) → Dec (Same a b c p q r)
    go (yes x) (yes y) (yes z) = yes (x, y, z)
    go (yes x) (yes y) (no z) = no (λ h. z h.2)
    go (yes x) (no y) z = no (λ h. y h.1)
    go (no x) y z = no (λ h. x h.0)

joined : {a b c p q r x y z : ℕ} → Same a b c x y z → Same p q r x y z → Same a b c p q r
joined h k = (h.0 ∙ sym k.0, h.1 ∙ sym k.1, h.2 ∙ sym k.2)

-- two cells that share the set (a,b,c) and are in no other
sharing :
    (In : (a b c : ℕ) → Cell → Type 0) (x y : Cell) (a b c : ℕ) → In a b c x → In a b c y → (p q r : ℕ) →
    (In p q r x → Same p q r a b c) → (In p q r y → Same p q r a b c) → BothOrNeither (In p q r) x y
sharing In x y a b c hx hy p q r fx fy = go (same p q r a b c)
  where
    go : Dec (Same p q r a b c) → BothOrNeither (In p q r) x y
    go (yes h) = inl (rw (h.0, h.1, h.2) hx, rw (h.0, h.1, h.2) hy)
    go (no n) = inr (λ m. n (fx m), λ m. n (fy m))

-- a cell is in one outer set at most, and in one inner set
module _ (G : Geometry) (s : Sound G) (x y : Cell) (hx : CellIn G x) (hy : CellIn G y) where
  share_outer :
      (a b e : ℕ) → OuterIn G a b e → InOuter G a b e x → InOuter G a b e y → (t i c : ℕ) → OuterIn G t i c →
      BothOrNeither (InOuter G t i c) x y
  share_outer a b e w mx my t i c v =
      sharing (InOuter G) x y a b e mx my t i c (only x hx mx) (only y hy my)
    where
      only : (z : Cell) → CellIn G z → InOuter G a b e z → InOuter G t i c z → Same t i c a b e
      only z h m n =
          let one = each_labelled_unit_in_one_outer_set G s z h (omega (arith, v.row, ap (λ (q : Cell). q.row) n.2)) in
          joined (one.only t i c v n) (one.only a b e w m)

  share_inner :
      (a b e : ℕ) → InnerIn G a b e → InInner G a b e x → InInner G a b e y → (t l j : ℕ) → InnerIn G t l j →
      BothOrNeither (InInner G t l j) x y
  share_inner a b e w mx my t l j v =
      sharing (InInner G) x y a b e mx my t l j (only x hx mx) (only y hy my)
    where
      only : (z : Cell) → CellIn G z → InInner G a b e z → InInner G t l j z → Same t l j a b e
      only z h m n =
          let one = each_unit_in_one_inner_set G s z h in
          joined (one.only t l j v n) (one.only a b e w m)

module _ (G : Geometry) (d : List ℕ) (L : Laid G d) where
  -- a unit and its diagonal's parity: an inner set holds both or neither
  with_inner :
      (x : Cell) → CellIn G x → (t l j : ℕ) → InnerIn G t l j → UnitsTogether G d (inner_starts G d t l j) x (inner_of G x)
  unfolding inner_of
  with_inner x h t l j v =
      let w = diagonal_in G L.sound x h in
      let hy = inner_of_in G d L x h in
      inner_together G d L x (inner_of G x) h hy t l j v
      (share_inner G L.sound x (inner_of G x) h hy x.tuple.0 x.position (diagonal_of G x) w
      (on_diagonal G L.sound x h) (parity_in G L.sound x.tuple.0 x.position (diagonal_of G x) w.diagonal) t l j v)

  -- two inner parities: an outer set holds neither
  inner_parities :
      (x y : Cell) → CellIn G x → CellIn G y → (t i c : ℕ) → OuterIn G t i c →
      UnitsTogether G d (outer_starts G d t i c) (inner_of G x) (inner_of G y)
  unfolding inner_of
  inner_parities x y hx hy t i c v =
      outer_together G d L (inner_of G x) (inner_of G y) (inner_of_in G d L x hx) (inner_of_in G d L y hy) t i c v
      (inr (
        the_last_row_in_no_outer_set G (inner_of G x) refl t i c v,
        the_last_row_in_no_outer_set G (inner_of G y) refl t i c v,
      ))

  module _ (n : ℕ) (h : n < user_units_of G) where
    user_in : CellIn G (user_cell G n)
    user_in = user_cell_in G L.sound n h

    outer_in : CellIn G (user_outer G n)
    unfolding user_outer
    outer_in = outer_cell_in G L.sound _ _ _ (digits_in G n L.sound h).label

    -- a data unit and its outer parity: an outer set holds both or neither
    with_outer : (t i c : ℕ) → OuterIn G t i c → UnitsTogether G d (outer_starts G d t i c) (user_cell G n) (user_outer G n)
    with_outer t i c v =
        let f = the_roles_of_the_four_places G d L n h in
        outer_together G d L (user_cell G n) (user_outer G n) user_in outer_in t i c v
        (share_outer G L.sound (user_cell G n) (user_outer G n) user_in outer_in _ _ _ (digits_in G n L.sound h).label
        f.user_in_outer f.outer_in_outer t i c v)

    module _ (a : List ℕ) (whole : length a ≡ bytes_of G) (o : ℕ) (e : List ℕ) (fits : o + length e ≤ G.u) where
      -- with e added to the four units the set is zero or not as before
      abbrev Kept : List ℕ → Type 0
      Kept ps =
          zero_sum (add_all a (map (λ (x : Cell). cell_start G d x + o) (write_cells G n)) e) ps G.u ≡ zero_sum a ps G.u

      outer_kept : (t i c : ℕ) → OuterIn G t i c → Kept (outer_starts G d t i c)
      unfolding write_cells
      outer_kept t i c v =
          zero_same _ _ G.u
          (λ j l. pairs_keep (outer_starts G d t i c) o G.u e j fits l (outer_spread G d L t i c v) a _ _ _ _
          (outer_inside G d L t i c v (length a) whole) (with_outer t i c v)
          (inner_parities (user_cell G n) (user_outer G n) user_in outer_in t i c v))

      inner_kept : (t l j : ℕ) → InnerIn G t l j → Kept (inner_starts G d t l j)
      unfolding write_cells
      inner_kept t l j v =
          zero_same _ _ G.u
          (λ i b. crossed_pairs_keep (inner_starts G d t l j) o G.u e i fits b (inner_spread G d L t l j v) a _ _ _ _
          (inner_inside G d L t l j v (length a) whole) (with_inner (user_cell G n) user_in t l j v)
          (with_inner (user_outer G n) outer_in t l j v))

-- the difference is as long as the new bytes
pub difference_length :
    (G : Geometry) (d a : List ℕ) (m o : ℕ) (new : List ℕ) → Range G d a m o (length new) →
    length (difference_of G d a m o new) ≡ length new
unfolding difference_of read_of
difference_length G d a m o new h =
    let p : ℕ = cell_start G d (user_cell G m) in
    let in_array : p + G.u ≤ bytes_of G =
    each_unit_lies_in_the_array G d h.laid (user_cell G m) (user_cell_in G h.laid.sound m h.user) in
    length_xors (run a (p + o) (length new)) new
    ∙ length_run a (p + o) (length new) (omega (arith, h.whole, h.inside, in_array))

pub a_write_leaves_each_set_as_it_was : AWriteLeavesEachSetAsItWas
unfolding set_zero write_of
a_write_leaves_each_set_as_it_was G d a m o new h =
    let e = difference_of G d a m o new in
    let fits : o + length e ≤ G.u = omega (arith, h.inside, difference_length G d a m o new h) in
    every_set G h.laid.sound d (λ (ps : List ℕ). zero_sum (write_of G d a m o new) ps G.u ≡ zero_sum a ps G.u)
    (outer_kept G d h.laid m h.user a h.whole o e fits)
    (inner_kept G d h.laid m h.user a h.whole o e fits)

pub a_write_keeps_a_consistent_array_consistent : AWriteKeepsAConsistentArrayConsistent
a_write_keeps_a_consistent_array_consistent G d a m o new h c s l =
    a_write_leaves_each_set_as_it_was G d a m o new h s l ∙ c s l
