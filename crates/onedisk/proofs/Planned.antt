-- Each byte of the rebuilt disk is the XOR of the bytes at its offset in the sources that the plan gives. Assumes nothing.
use Prim.Native.Nat.{ℕ, zero, suc, ◌+◌, ◌-◌, ◌≤◌, ◌<◌}
use mathlib.Core.Path.{◌≡◌, refl, sym, ap, ap₂, ◌∙◌}
use mathlib.Core.Bool.{Bool, true, false, not, cond}
use mathlib.Core.List.{List}
use native.Mathlib.Decide.{ℕ_discrete}
use native.Mathlib.Omega.{arith}
use lib.Bits.{bit_xor, xor_zero_l, xor_zero_r}
use lib.Dec.{ltb}
use lib.ListN.{get_or, length}
use borrow.Author.Tests.{eq-eqb, ltb-true}
use Rattle.counting.proofs.Bools.{not_is_false}
use Rattle.geometry.specs.declared.Geometry.{Geometry}
use Rattle.geometry.specs.Geometry.{units_of, bytes_of}
use Rattle.design.specs.Design.{Laid}
use Rattle.cells.specs.declared.Cell.{Cell}
use Rattle.cells.specs.Cells.{label_of, diagonal_of}
use Rattle.cells.specs.Sets.{outer_member, inner_member}
use Rattle.cells.specs.Ranges.{CellIn}
use Rattle.cells.proofs.Sets.{outer_member_in, inner_member_in, label_in, diagonal_in}
use Rattle.layout.specs.declared.Place.{Place}
use Rattle.layout.specs.Places.{place, place_of, cell_at}
use Rattle.layout.specs.Marks.{lost}
use Rattle.layout.proofs.Places.{cell_at_in, place_of_cell}
use Rattle.array.specs.Array.{start_of, cell_start}
use Rattle.peeling.specs.Peeling.{rest_sum, byte_after}
use Rattle.reaching.specs.Reach.{tuple_cells_of, number_of, cell_numbered, outer_side, inner_side, here_of}
use Rattle.reaching.specs.Theorems.{CellsNumbered}
use Rattle.reaching.proofs.Numbers.{the_cells_of_a_tuple_are_numbered}
use Rattle.replaying.proofs.Bytes.{byte_at}
use Rattle.rebuilding.specs.Rebuild.{rebuilt_of}
use Rattle.rebuilding.proofs.Bytes.{rebuilt_at}
use Rattle.sources.specs.Plan.{lists_of, others, unit_plan, plan_below, plan_of}
use Rattle.onedisk.specs.OneDisk.{OneLost, first_side}
use Rattle.onedisk.specs.Theorems.{EachRebuiltByteIsTheXorOfItsPlannedSources}
use Rattle.onedisk.proofs.AtOnce.{byte_first}
use Rattle.onedisk.proofs.Marked.{first, first_rest, steps_at_once}
use Rattle.onedisk.proofs.Triples.{Threes, threes_lists, list_sum, list_none, list_append, threes_unit, others_elsewhere, others_here}

-- ---- the plan: only the triples of unit y count for it
module _ (G : Geometry) (d a : List ℕ) (j y : ℕ) where
  unit_elsewhere : (z : ℕ) (x : Cell) → (z ≡ y → ⊥) → list_sum G a j y (unit_plan G d z x) ≡ 0
  unfolding unit_plan
  unit_elsewhere z x ne = go (ltb x.row (G.g - 1))
    where
      go :
          (b : Bool) → list_sum G a j y (cond b
          (others G d z (outer_member G x.tuple.0 x.row (label_of G x)) x.position G.k)
          (others G d z (inner_member G x.tuple.0 x.position (diagonal_of G x)) x.row G.g)) ≡ 0
      go true = others_elsewhere G a j y d z _ x.position G.k ne
      go false = others_elsewhere G a j y d z _ x.row G.g ne

  module _ (x : ℕ) where
    abbrev planned : ℕ → List ℕ
    planned z = unit_plan G d z (cell_at G d x z)

    threes_planned : (n : ℕ) → Threes (lists_of planned n)
    threes_planned n = threes_lists planned n (λ z. threes_unit G d z (cell_at G d x z))

    lists_before : (n : ℕ) → n ≤ y → list_sum G a j y (lists_of planned n) ≡ 0
    unfolding lists_of
    lists_before zero h = list_none G a j y
    lists_before (suc n) h =
        list_append G a j y (lists_of planned n) (planned n) (threes_planned n)
        ∙ ap₂ bit_xor (lists_before n (omega arith)) (unit_elsewhere n (cell_at G d x n) (λ e. omega arith))

    lists_with : (n : ℕ) → y < n → list_sum G a j y (lists_of planned n) ≡ list_sum G a j y (planned y)
    unfolding lists_of
    lists_with zero h = absurd (omega arith)
    lists_with (suc n) h =
        list_append G a j y (lists_of planned n) (planned n) (threes_planned n)
        ∙ go (ℕ_discrete n y) (λ (l : y < n). lists_with n l)
      where
        go :
            Dec (n ≡ y) → (y < n → list_sum G a j y (lists_of planned n) ≡ list_sum G a j y (planned y)) →
            bit_xor (list_sum G a j y (lists_of planned n)) (list_sum G a j y (planned n)) ≡ list_sum G a j y (planned y)
        go (yes e) ih =
            ap₂ bit_xor (lists_before n (omega arith)) (ap (λ (z : ℕ). list_sum G a j y (planned z)) e) ∙ xor_zero_l _
        go (no e) ih =
            ap₂ bit_xor (ih (omega arith)) (unit_elsewhere n (cell_at G d x n) e) ∙ xor_zero_r _

    pub plan_of_unit : y < units_of G → list_sum G a j y (plan_of G d x) ≡ list_sum G a j y (planned y)
    unfolding plan_of plan_below
    plan_of_unit h = lists_with (units_of G) h

-- ---- the rebuild: the XOR of the rest of a cell's first set
module _ (G : Geometry) (d a : List ℕ) (L : Laid G d) (j y : ℕ) (x : Cell) (v : CellIn G x) where
  abbrev t : ℕ
  t = x.tuple.0

  abbrev held : ℕ → ℕ
  held n = byte_at G d a j (cell_numbered G t n)

  numbered : CellsNumbered G x.tuple.0
  numbered = the_cells_of_a_tuple_are_numbered G d L t v.tuple

  held_cell : (z : Cell) → CellIn G z → z.tuple.0 ≡ t → held (number_of G z) ≡ byte_at G d a j z
  held_cell z w e = ap (byte_at G d a j) (numbered.again z w e)

  pub first_planned :
      rest_sum held (first_side G x) (first_side G x).size ≡ list_sum G a j y (unit_plan G d y x)
  unfolding first_side unit_plan outer_side inner_side
  first_planned = go (ltb x.row (G.g - 1)) refl
    where
      Outer : ℕ → Cell
      Outer = outer_member G t x.row (label_of G x)

      Inner : ℕ → Cell
      Inner = inner_member G t x.position (diagonal_of G x)

      go :
          (b : Bool) → ltb x.row (G.g - 1) ≡ b →
          rest_sum held (cond b (outer_side G x) (inner_side G x)) (cond b (outer_side G x) (inner_side G x)).size
          ≡ list_sum G a j y (cond b (others G d y Outer x.position G.k) (others G d y Inner x.row G.g))
      go true r =
          others_here G a j y d Outer (outer_side G x) held G.k
          (λ e l.
          held_cell (Outer e)
          (outer_member_in G L.sound t x.row (label_of G x) e
          (label_in G L.sound x v (ltb-true x.row (G.g - 1) r)) l)
          refl)
      go false r =
          others_here G a j y d Inner (inner_side G x) held G.g
          (λ e l.
          held_cell (Inner e)
          (inner_member_in G L.sound t x.position (diagonal_of G x) e (diagonal_in G L.sound x v) l) refl)

-- a lost cell has the XOR of the rest of its first set
module _ (G : Geometry) (d marks a : List ℕ) (disk : ℕ) (L : Laid G d) (o : OneLost G marks disk) (long : length a ≡ bytes_of G)
    (j : ℕ) (l : j < G.u) (x : Cell) (v : CellIn G x) (out : lost G marks (place_of G d x) ≡ true) where
  rebuilt_first :
      byte_at G d (rebuilt_of G d marks a) j x
      ≡ rest_sum (λ (n : ℕ). byte_at G d a j (cell_numbered G x.tuple.0 n)) (first_side G x) (first_side G x).size
  unfolding here_of
  rebuilt_first =
      rebuilt_at G d marks L a long j l now x v (λ m q. refl)
      ∙ ap (λ ss. byte_after now ss (number_of G x)) (steps_at_once G d marks disk L o t v.tuple)
      ∙ byte_first (here_of G d marks t) (first G d marks disk L o t v.tuple) (tuple_cells_of G)
      (first_rest G d marks disk L o t v.tuple) now (tuple_cells_of G) (omega arith) (number_of G x) (numbered.low x v)
      missing
      ∙ ap (λ (z : Cell). rest_sum now (first_side G z) (first_side G z).size) (numbered.again x v refl)
    where
      t : ℕ
      t = x.tuple.0

      now : ℕ → ℕ
      now n = byte_at G d a j (cell_numbered G x.tuple.0 n)

      numbered : CellsNumbered G x.tuple.0
      numbered = the_cells_of_a_tuple_are_numbered G d L x.tuple.0 v.tuple

      missing : here_of G d marks x.tuple.0 (number_of G x) ≡ false
      missing =
          ap (λ (z : Cell). not (lost G marks (place_of G d z))) (numbered.again x v refl)
          ∙ not_is_false (lost G marks (place_of G d x)) out

pub each_rebuilt_byte_is_the_XOR_of_its_planned_sources : EachRebuiltByteIsTheXorOfItsPlannedSources
unfolding cell_start lost
each_rebuilt_byte_is_the_XOR_of_its_planned_sources G d marks a x L o long y j hy hj =
    ap (λ (p : Place). get_or (rebuilt_of G d marks a) (start_of G p + j) 0) (sym at)
    ∙ rebuilt_first G d marks a x L o long j hj here v out
    ∙ first_planned G d a L j y here v
    ∙ sym (plan_of_unit G d a j y x hy)
  where
    here : Cell
    here = cell_at G d x y

    v : CellIn G here
    v = cell_at_in G d L x y o.disk hy

    at : place_of G d here ≡ place x y
    at = place_of_cell G d L x y o.disk hy

    out : lost G marks (place_of G d here) ≡ true
    out = eq-eqb (get_or marks (place_of G d here).disk.0 0) 1 (ap (λ (p : Place). get_or marks p.disk.0 0) at ∙ o.lost)
