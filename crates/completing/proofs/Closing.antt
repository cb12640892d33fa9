-- A set of cells that holds those present from the start and is closed under "a set that lacks only it" holds every cell of a
-- tuple of which each region but one has at most one lost column. Assumes nothing.
use Prim.Native.Nat.{ℕ, ◌+◌, ◌-◌, ◌*◌, ◌≤◌, ◌<◌}
use mathlib.Core.Path.{◌≡◌, refl, sym, ◌∙◌}
use mathlib.Core.Bool.{Bool, true, false, cond}
use mathlib.Core.Logic.{◌⊎◌, inl, inr}
use mathlib.Core.List.{List, [], ◌∷◌}
use lib.Dec.{ltb, eqb}
use lib.ListN.{get_or}
use native.Mathlib.Decide.{ℕ_discrete, dec_lt}
use native.Mathlib.Omega.{arith}
use borrow.Author.Tests.{lt-ltb}
use Rattle.counting.specs.Counting.{count_below}
use Rattle.counting.proofs.Bools.{bool_either, not_is_true}
use Rattle.counting.proofs.Laws.{count_lt, count_only}
use Rattle.geometry.specs.declared.Geometry.{Geometry}
use Rattle.geometry.specs.Geometry.{tuples_of}
use Rattle.design.specs.Design.{group_at, Laid}
use Rattle.region.specs.Columns.{label_column, diagonal_column}
use Rattle.cells.specs.declared.Cell.{Cell}
use Rattle.cells.specs.Cells.{cell, label_of, diagonal_of}
use Rattle.cells.specs.Ranges.{CellIn}
use Rattle.region.proofs.Turns.{label_column_lt, diagonal_column_lt, diagonal_once}
use Rattle.cells.proofs.Sets.{diagonal_in, diagonal_column_lem}
use Rattle.layout.specs.Places.{place_of}
use Rattle.layout.specs.Marks.{lost}
use Rattle.peeling.specs.Theorems.{SomeRest, Closed}
use Rattle.reaching.specs.Reach.{tuple_cells_of, number_of, cell_numbered, outer_side, inner_side, sides_of, here_of}
use Rattle.reaching.specs.Theorems.{CellsNumbered}
use Rattle.completing.proofs.Groups.{lost_at}

-- where at most one number below n passes a test, two that pass are one
only_one : (f : ℕ → Bool) (n i j : ℕ) → count_below f n ≤ 1 → i < n → j < n → f i ≡ true → f j ≡ true → i ≡ j
only_one f n i j h p q x y =
    let a : count_below f i < count_below f n = count_lt f i n p x in
    let b : count_below f j < count_below f n = count_lt f j n q y in
    count_only f i j x y (omega arith)

module _ (G : Geometry) (d marks : List ℕ) (L : Laid G d) (t : ℕ) (ht : t < tuples_of G) (N : CellsNumbered G t) where
  g_pos : 0 < G.g
  g_pos = omega (arith, L.sound.g_low)

  cell_in : (l i c : ℕ) → l < G.k → i < G.g → c < G.g → CellIn G (cell t l i c)
  cell_in l i c p q s = record { tuple = ht; position = p; row = q; column = s }

  -- column c of the region at position l is lost
  abbrev gone : (l c : ℕ) → Bool
  gone l c = eqb (get_or marks (group_at G.k d t l * G.g + c) 0) 1

  -- where one column of a region is lost, a unit of it is the only lost one on its diagonal
  alone :
      (l i c q : ℕ) → CellIn G (cell t l i c) → lost_at G d marks t l ≤ 1 → gone l c ≡ true → q < G.g → (q ≡ i → ⊥) →
      gone l (diagonal_column G.g (diagonal_of G (cell t l i c)) q) ≡ false
  alone l i c q h light e hq ne = go (bool_either (gone l x))
    where
      j : ℕ
      j = diagonal_of G (cell t l i c)

      x : ℕ
      x = diagonal_column G.g j q

      go : (gone l x ≡ true) ⊎ (gone l x ≡ false) → gone l x ≡ false
      go (inr y) = y
      go (inl y) =
          let same : x ≡ c = only_one (gone l) G.g x c light (diagonal_column_lt G.g j q g_pos) h.column y e in
          let low : j < G.g = (diagonal_in G L.sound (cell t l i c) h).diagonal in
          absurd (ne (diagonal_once G.g j q i (omega arith) hq h.row
          (same ∙ sym (diagonal_column_lem G L.sound (cell t l i c) h))))

  module _ (R : ℕ → Type 0) (C : Closed (here_of G d marks t) (sides_of G t) (tuple_cells_of G) R) where
    -- the set holds the cell
    abbrev Has : (l i c : ℕ) → Type 0
    Has l i c = R (number_of G (cell t l i c))

    -- a cell whose column is not lost is present
    here : (l i c : ℕ) → CellIn G (cell t l i c) → gone l c ≡ false → Has l i c
    unfolding here_of place_of lost
    here l i c h e =
        C.from_start (number_of G (cell t l i c)) (rw (N.again (cell t l i c) h refl) (not_is_true (gone l c) e))

    -- a cell follows from the others of its diagonal: "its inner set lacks only it"
    by_inner :
        (l i c : ℕ) → CellIn G (cell t l i c) →
        ((q : ℕ) → q < G.g → (q ≡ i → ⊥) → Has l q (diagonal_column G.g (diagonal_of G (cell t l i c)) q)) → Has l i c
    unfolding sides_of inner_side
    by_inner l i c h rest =
        C.closed (number_of G x) (N.low x h) (rw (N.again x h refl) (some (ltb i (G.g - 1))))
      where
        x : Cell
        x = cell t l i c

        some : (b : Bool) → SomeRest R (cond b (outer_side G x ∷ inner_side G x ∷ []) (inner_side G x ∷ []))
        some true = inr (inl rest)
        some false = inl rest

    -- and, in a row below g-1, from the others of its label: "whose outer set lacks only it"
    by_outer :
        (l i c : ℕ) → CellIn G (cell t l i c) → i < G.g - 1 →
        ((q : ℕ) → q < G.k → (q ≡ l → ⊥) → Has q i (label_column G.g q i (label_of G (cell t l i c)))) → Has l i c
    unfolding sides_of outer_side
    by_outer l i c h low rest =
        C.closed (number_of G x) (N.low x h) (rw (N.again x h refl, lt-ltb i (G.g - 1) low) (inl rest))
      where
        x : Cell
        x = cell t l i c

    -- a region with at most one lost column
    light_region : (l i c : ℕ) → CellIn G (cell t l i c) → lost_at G d marks t l ≤ 1 → Has l i c
    light_region l i c h light = go (bool_either (gone l c))
      where
        go : (gone l c ≡ true) ⊎ (gone l c ≡ false) → Has l i c
        go (inr e) = here l i c h e
        go (inl e) =
            by_inner l i c h
            (λ q hq ne. here l q _ (cell_in l q _ h.position hq (diagonal_column_lt G.g _ q g_pos))
            (alone l i c q h light e hq ne))

    module _ (heavy : ℕ) (light : (l : ℕ) → l < G.k → (l ≡ heavy → ⊥) → lost_at G d marks t l ≤ 1) where
      -- a cell of the heavy position has its label's others in light regions
      lower_row : (l i c : ℕ) → CellIn G (cell t l i c) → i < G.g - 1 → Has l i c
      lower_row l i c h low = go (ℕ_discrete l heavy)
        where
          go : Dec (l ≡ heavy) → Has l i c
          go (no e) = light_region l i c h (light l h.position e)
          go (yes e) =
              by_outer l i c h low
              (λ q hq ne. light_region q i _ (cell_in q i _ hq h.row (label_column_lt G.g q i _ g_pos))
              (light q hq (λ y. ne (y ∙ sym e))))

      -- and in row g-1 its diagonal's others in the rows below
      every_cell : (l i c : ℕ) → CellIn G (cell t l i c) → Has l i c
      every_cell l i c h = go (dec_lt i (G.g - 1))
        where
          go : Dec (i < G.g - 1) → Has l i c
          go (yes low) = lower_row l i c h low
          go (no high) =
              by_inner l i c h
              (λ q hq ne. lower_row l q _ (cell_in l q _ h.position hq (diagonal_column_lt G.g _ q g_pos))
              (omega (arith, h.row)))

      pub every_number : (n : ℕ) → n < tuple_cells_of G → R n
      unfolding cell_numbered
      every_number n h = rw (N.back n h) at (every_cell _ _ _ (N.there n h))
