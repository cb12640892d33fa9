-- The bytes that the steps of a tuple leave: each unit of the tuple has, at each offset, what the passes give the cell there;
-- the units of other tuples stay. Assumes nothing.
use Prim.Native.Nat.{ℕ, ◌+◌, ◌≤◌, ◌<◌}
use mathlib.Core.Path.{◌≡◌, refl, sym, ap, ◌∙◌}
use mathlib.Core.Logic.{◌⊎◌, inl, inr, ⊎_elim}
use mathlib.Core.List.{List, [], ◌∷◌}
use native.Mathlib.Decide.{ℕ_discrete}
use native.Mathlib.Omega.{arith}
use lib.ListN.{get_or, length}
use Rattle.geometry.specs.declared.Geometry.{Geometry}
use Rattle.geometry.specs.Geometry.{tuples_of, bytes_of}
use Rattle.design.specs.Design.{Laid}
use Rattle.cells.specs.declared.Cell.{Cell}
use Rattle.cells.specs.Ranges.{CellIn}
use Rattle.leaves.specs.Bytes.{Apart}
use Rattle.array.specs.Array.{cell_start}
use Rattle.array.proofs.Theorems.{no_two_units_share_a_byte}
use Rattle.peeling.specs.Peeling.{Step, rest_sum, byte_after}
use Rattle.peeling.proofs.Bytes.{rest_same, byte_none, byte_here, byte_elsewhere}
use Rattle.reaching.specs.Reach.{tuple_cells_of, number_of, cell_numbered}
use Rattle.reaching.specs.Theorems.{CellsNumbered}
use Rattle.reaching.proofs.Numbers.{the_cells_of_a_tuple_are_numbered}
use Rattle.restoring.specs.Restore.{OneOf}
use Rattle.restoring.proofs.Restored.{restored_length, restored_own, restored_out}
use Rattle.replaying.specs.Replay.{side_starts, step_bytes, replayed}
use Rattle.replaying.proofs.Rest.{sum_of_rest}
use Rattle.replaying.proofs.Sides.{SideOf, OfTuple, own_start, side_runs}

-- the byte at offset j of the unit of a cell
abbrev pub byte_at : Geometry → List ℕ → List ℕ → (j : ℕ) → Cell → ℕ
byte_at G d a j x = get_or a (cell_start G d x + j) 0

module _ (G : Geometry) (d : List ℕ) (L : Laid G d) (t : ℕ) (ht : t < tuples_of G) where
  abbrev numbered : CellsNumbered G t
  numbered = the_cells_of_a_tuple_are_numbered G d L t ht

  -- ---- one step
  module _
      (a : List ℕ) (long : length a ≡ bytes_of G) (s : Step) (low : s.cell < tuple_cells_of G)
      (of : SideOf G s.cell s.side) where
    abbrev at : Cell
    at = cell_numbered G t s.cell

    abbrev starts : List ℕ
    starts = side_starts G d t s.side

    runs : OneOf (length a) (side_starts G d t s.side) s.side.own G.u
    runs = side_runs G d L t ht s.cell s.side of (length a) long

    start : get_or (side_starts G d t s.side) s.side.own 0 ≡ cell_start G d (cell_numbered G t s.cell)
    start = own_start G d L t ht s.cell s.side of

    pub step_length : length (step_bytes G d t s a) ≡ length a
    unfolding step_bytes
    step_length = restored_length a starts s.side.own G.u runs

    -- the cell restored has the XOR of the rest
    pub step_here :
        (j : ℕ) → j < G.u →
        byte_at G d (step_bytes G d t s a) j (cell_numbered G t s.cell)
        ≡ rest_sum (λ (n : ℕ). byte_at G d a j (cell_numbered G t n)) s.side s.side.size
    unfolding step_bytes side_starts
    step_here j l =
        ap (λ (p : ℕ). get_or (step_bytes G d t s a) (p + j) 0) (sym start)
        ∙ restored_own a starts s.side.own G.u runs j l
        ∙ sum_of_rest a (λ (q : ℕ). cell_start G d (cell_numbered G t (s.side.member q))) j s.side
        (λ (n : ℕ). byte_at G d a j (cell_numbered G t n)) s.side.size of.own.low (λ q m. refl)

    -- and every other stays
    pub step_elsewhere :
        (x : Cell) → CellIn G x → (cell_numbered G t s.cell ≡ x → ⊥) → (j : ℕ) → j < G.u →
        byte_at G d (step_bytes G d t s a) j x ≡ byte_at G d a j x
    unfolding step_bytes
    step_elsewhere x h ne j l =
        restored_out a starts s.side.own G.u runs (cell_start G d x + j)
        (out (no_two_units_share_a_byte G d L at x (numbered.there s.cell low) h ne))
      where
        out :
            Apart (cell_start G d at) G.u (cell_start G d x) G.u →
            (cell_start G d x + j < get_or starts s.side.own 0) ⊎ (get_or starts s.side.own 0 + G.u ≤ cell_start G d x + j)
        out p =
            ⊎_elim (λ (q : cell_start G d at + G.u ≤ cell_start G d x). inr (omega (arith, start)))
            (λ (q : cell_start G d x + G.u ≤ cell_start G d at). inl (omega (arith, start))) p.apart

  -- ---- the steps, one after the other
  module _ (a : List ℕ) (long : length a ≡ bytes_of G) where
    pub replayed_length : (ss : List Step) → OfTuple G ss → length (replayed G d t ss a) ≡ bytes_of G
    unfolding replayed
    replayed_length [] o = long
    replayed_length (s ∷ ss) (low, of, o) =
        let before = replayed_length ss o in
        step_length (replayed G d t ss a) before s low of ∙ before

    -- "Tuples go upwards": the units of the other tuples stay
    pub replayed_other :
        (ss : List Step) → OfTuple G ss → (x : Cell) → CellIn G x → (t ≡ x.tuple.0 → ⊥) → (j : ℕ) → j < G.u →
        byte_at G d (replayed G d t ss a) j x ≡ byte_at G d a j x
    unfolding replayed cell_numbered
    replayed_other [] o x h ne j l = refl
    replayed_other (s ∷ ss) (low, of, o) x h ne j l =
        step_elsewhere (replayed G d t ss a) (replayed_length ss o) s low of x h
        (λ (e : cell_numbered G t s.cell ≡ x). ne (ap (λ (y : Cell). y.tuple.0) e)) j l
        ∙ replayed_other ss o x h ne j l

    -- b is what the tuple's cells hold at offset j
    module _
        (j : ℕ) (l : j < G.u) (b : ℕ → ℕ)
        (is : (n : ℕ) → n < tuple_cells_of G → byte_at G d a j (cell_numbered G t n) ≡ b n) where
      pub replayed_at :
          (ss : List Step) → OfTuple G ss → (n : ℕ) → n < tuple_cells_of G →
          byte_at G d (replayed G d t ss a) j (cell_numbered G t n) ≡ byte_after b ss n
      unfolding replayed
      replayed_at [] o n h = is n h ∙ sym (byte_none b n)
      replayed_at (s ∷ ss) (low, of, o) n h = go (ℕ_discrete s.cell n) (replayed_at ss o)
        where
          before : List ℕ
          before = replayed G d t ss a

          now : ℕ → ℕ
          now m = byte_at G d before j (cell_numbered G t m)

          go :
              Dec (s.cell ≡ n) → ((m : ℕ) → m < tuple_cells_of G → now m ≡ byte_after b ss m) →
              byte_at G d (step_bytes G d t s before) j (cell_numbered G t n) ≡ byte_after b (s ∷ ss) n
          go (yes e) ih =
              ap (λ (m : ℕ). byte_at G d (step_bytes G d t s before) j (cell_numbered G t m)) (sym e)
              ∙ step_here before (replayed_length ss o) s low of j l
              ∙ rest_same now (byte_after b ss) s.side s.side.size (λ q m ne. ih (s.side.member q) (of.inside q m))
              ∙ sym (byte_here b s ss n e)
          go (no e) ih =
              step_elsewhere before (replayed_length ss o) s low of (cell_numbered G t n) (numbered.there n h)
              (λ f. e (sym (numbered.back s.cell low) ∙ ap (number_of G) f ∙ numbered.back n h)) j l
              ∙ ih n h
              ∙ sym (byte_elsewhere b s ss n e)
