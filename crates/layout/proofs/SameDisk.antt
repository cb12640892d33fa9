-- Which cells share a disk: the regions of a tuple lie in different groups, and a diagonal meets each column once.
use Prim.Native.Nat.{ℕ, ◌-◌, ◌<◌}
use mathlib.Core.Path.{◌≡◌, ◌∙◌, ap, refl, sym}
use mathlib.Core.List.{List}
use native.Mathlib.Omega.{arith}
use Rattle.geometry.specs.declared.Geometry.{Geometry}
use Rattle.geometry.specs.declared.Disk.{Disk}
use Rattle.geometry.specs.Geometry.{tuples_of, user_units_of}
use Rattle.design.specs.Design.{group_at, Laid}
use Rattle.design.proofs.Rows.{row_once}
use Rattle.numbering.specs.Ranges.{OuterIn, InnerIn, UserIn}
use Rattle.numbering.specs.Numbering.{user_tuple, user_region, user_row, user_column}
use Rattle.cells.specs.declared.Cell.{Cell}
use Rattle.cells.specs.Cells.{diagonal_of}
use Rattle.cells.specs.Sets.{outer_member, inner_member, InOuter, InInner}
use Rattle.cells.specs.Ranges.{CellIn}
use Rattle.cells.specs.Roles.{user_cell, user_outer, inner_of}
use Rattle.layout.specs.Places.{place_of, four_of}
use Rattle.layout.specs.Theorems.{FourApart}
use Rattle.region.proofs.Turns.{diagonal_once}
use Rattle.numbering.proofs.Positions.{data_position_other}
use Rattle.numbering.proofs.Numbering.{digits_only, digits_in}
use Rattle.cells.proofs.Sets.{outer_member_in, inner_member_in, diagonal_in, on_diagonal, parity_in}
use Rattle.cells.proofs.Roles.{user_cell_in, outer_cell_in, inner_cell_in}

-- the group in whose region a cell lies, and the disk on which it lies
abbrev group_of : Geometry → List ℕ → Cell → ℕ
group_of G d x = group_at G.k d x.tuple.0 x.position

abbrev pub disk_of : Geometry → List ℕ → Cell → Disk
disk_of G d x = (place_of G d x).disk

-- one disk is one group and one column
disk_only :
    (G : Geometry) (d : List ℕ) (x y : Cell) → CellIn G x → CellIn G y → disk_of G d x ≡ disk_of G d y →
    (group_of G d x ≡ group_of G d y) × (x.column ≡ y.column)
unfolding place_of
disk_only G d x y h l e =
    digits_only G.g (group_of G d x) x.column (group_of G d y) y.column h.column l.column
    (ap (λ (z : Disk). z.0) e)

module _ (G : Geometry) (d : List ℕ) (L : Laid G d) where
  -- cells of one tuple that share a disk stand at one position
  pub one_position :
      (x y : Cell) → CellIn G x → CellIn G y → x.tuple.0 ≡ y.tuple.0 → disk_of G d x ≡ disk_of G d y →
      x.position ≡ y.position
  one_position x y h q t e =
      row_once G.v G.k (tuples_of G) d L.design x.tuple.0 h.tuple x.position y.position
      h.position q.position
      ((disk_only G d x y h q e).0 ∙ ap (λ (n : ℕ). group_at G.k d n y.position) (sym t))

  -- no set holds two units of one disk
  pub outer_apart :
      (t i c : ℕ) → OuterIn G t i c → (x y : Cell) → InOuter G t i c x → InOuter G t i c y →
      disk_of G d x ≡ disk_of G d y → x ≡ y
  outer_apart t i c h x y p q e =
      let a : CellIn G (outer_member G t i c p.0) = outer_member_in G L.sound t i c p.0 h p.1 in
      let b : CellIn G (outer_member G t i c q.0) = outer_member_in G L.sound t i c q.0 h q.1 in
      let same : p.0 ≡ q.0 =
      one_position (outer_member G t i c p.0) (outer_member G t i c q.0) a b refl
      (sym (ap (disk_of G d) p.2) ∙ e ∙ ap (disk_of G d) q.2) in
      p.2 ∙ ap (outer_member G t i c) same ∙ sym q.2

  pub inner_apart :
      (t l j : ℕ) → InnerIn G t l j → (x y : Cell) → InInner G t l j x → InInner G t l j y →
      disk_of G d x ≡ disk_of G d y → x ≡ y
  inner_apart t l j h x y p q e =
      let a : CellIn G (inner_member G t l j p.0) = inner_member_in G L.sound t l j p.0 h p.1 in
      let b : CellIn G (inner_member G t l j q.0) = inner_member_in G L.sound t l j q.0 h q.1 in
      let both = disk_only G d _ _ a b (sym (ap (disk_of G d) p.2) ∙ e ∙ ap (disk_of G d) q.2) in
      let same : p.0 ≡ q.0 =
      diagonal_once G.g j p.0 q.0 (omega (arith, h.diagonal)) p.1 q.1 both.1 in
      p.2 ∙ ap (inner_member G t l j) same ∙ sym q.2

  -- the parity of a cell's diagonal is a cell
  pub inner_of_in : (x : Cell) → CellIn G x → CellIn G (inner_of G x)
  unfolding inner_of
  inner_of_in x h = inner_cell_in G L.sound _ _ _ (diagonal_in G L.sound x h)

  -- on another disk than the cell, unless they are one
  parity_apart : (x : Cell) → CellIn G x → x.row < G.g - 1 → disk_of G d x ≡ disk_of G d (inner_of G x) → ⊥
  unfolding inner_of
  parity_apart x h r e =
      let i : InnerIn G x.tuple.0 x.position (diagonal_of G x) = diagonal_in G L.sound x h in
      let same : x ≡ inner_of G x =
      inner_apart x.tuple.0 x.position (diagonal_of G x) i x (inner_of G x) (on_diagonal G L.sound x h)
      (parity_in G L.sound x.tuple.0 x.position (diagonal_of G x) i.diagonal) e in
      omega (arith, ap (λ (y : Cell). y.row) same)

  pub four_apart : (n : ℕ) → n < user_units_of G → FourApart (four_of G d n)
  unfolding four_of user_cell user_outer inner_of
  four_apart n h =
      record {
        user_outer = λ e. other (one_position x y hx hy refl e);
        user_inner = parity_apart x hx u.label.row;
        user_both = λ e. other (one_position x (inner_of G y) hx (inner_of_in y hy) refl e);
        outer_inner = λ e. other (one_position (inner_of G x) y (inner_of_in x hx) hy refl (sym e));
        outer_both = parity_apart y hy u.label.row;
        inner_both = λ e.
            other (one_position (inner_of G x) (inner_of G y) (inner_of_in x hx) (inner_of_in y hy) refl e);
      }
    where
      x : Cell
      x = user_cell G n

      y : Cell
      y = user_outer G n

      u : UserIn G (user_tuple G n) (user_region G n) (user_row G n) (user_column G n)
      u = digits_in G n L.sound h

      hx : CellIn G x
      hx = user_cell_in G L.sound n h

      hy : CellIn G y
      hy = outer_cell_in G L.sound (user_tuple G n) (user_row G n) (user_column G n) u.label

      other : x.position ≡ y.position → ⊥
      other = data_position_other G (user_tuple G n) (user_region G n)
