-- Which cells of a tuple are lost with disk x: its column of the region of its group. So the steps of the passes are those of
-- that column, row by row. Assumes nothing.
use Prim.Native.Nat.{ℕ, zero, suc, ◌+◌, ◌*◌, ◌/◌, ◌%◌, ◌≤◌, ◌<◌}
use mathlib.Core.Path.{◌≡◌, refl, sym, ap, ◌∙◌}
use mathlib.Core.Bool.{Bool, true, false, not, cond}
use mathlib.Core.Logic.{◌⊎◌, inl, inr}
use mathlib.Core.List.{List, [], ◌∷◌}
use lib.ListN.{get_or}
use native.Mathlib.Decide.{ℕ_discrete}
use native.Mathlib.Nat.{mod-lt, div-add-mod', mul-le-mul_right, suc-mul}
use native.Mathlib.Omega.{arith}
use borrow.Author.Tests.{eq-eqb, not-false}
use Rattle.counting.proofs.Bools.{bool_either, bool_not_both, not_is_false}
use Rattle.geometry.specs.declared.Geometry.{Geometry}
use Rattle.geometry.specs.Geometry.{tuples_of}
use Rattle.design.specs.Design.{group_at, names, Laid}
use Rattle.design.proofs.Rows.{in_names, position_lt, position_holds, position_is}
use Rattle.cells.specs.declared.Cell.{Cell}
use Rattle.cells.specs.Cells.{cell}
use Rattle.cells.specs.Ranges.{CellIn}
use Rattle.layout.specs.Regions.{position_of}
use Rattle.layout.specs.Places.{place_of}
use Rattle.layout.specs.Marks.{lost}
use Rattle.peeling.specs.Peeling.{Side, Step}
use Rattle.reaching.specs.Reach.{tuple_cells_of, number_of, cell_numbered, here_of, steps_of}
use Rattle.reaching.specs.Theorems.{CellsNumbered}
use Rattle.reaching.proofs.Numbers.{the_cells_of_a_tuple_are_numbered}
use Rattle.onedisk.specs.OneDisk.{OneLost, first_side, column_steps, disk_steps}
use Rattle.onedisk.specs.Theorems.{ThePassesOfOneLostDisk}
use Rattle.onedisk.proofs.AtOnce.{missing_steps, steps_present, steps_missing}
use Rattle.onedisk.proofs.Hits.{cell_of_disk}
use Rattle.onedisk.proofs.Marked.{lost_disk, first, steps_at_once}

module _ (G : Geometry) (t l c : ℕ) (g_pos : 0 < G.g) where
  -- the number of row i of the column
  abbrev row : ℕ → ℕ
  row i = number_of G (cell t l i c)

  rows_ascend : (i j : ℕ) → i < j → row i < row j
  unfolding number_of
  rows_ascend i j h =
      let up : (l * G.g + i) * G.g + G.g ≤ (l * G.g + j) * G.g =
      omega (arith, mul-le-mul_right G.g (below (l * G.g)), suc-mul (l * G.g + i) G.g)
      in
      omega arith
    where
      below : (m : ℕ) → suc (m + i) ≤ m + j
      below m = omega arith

  module _
      (start : ℕ → Bool) (firsts : ℕ → Side)
      (is : (i : ℕ) → i < G.g → firsts (row i) ≡ first_side G (cell t l i c)) where
    -- the missing cells below n are the first m rows of the column
    pub record Rows (n m : ℕ) : Type 0 where
      pub high : m ≤ G.g
      pub low : (i : ℕ) → i < m → row i < n
      pub missing : (i : ℕ) → i < m → start (row i) ≡ false
      pub only : (y : ℕ) → y < n → start y ≡ false → (i : ℕ) × (i < m) × (y ≡ row i)

    step_alike : (n i : ℕ) → i < G.g → n ≡ row i →
        ◌≡◌ {A = Step} (record { cell = n; side = firsts n }) (record { cell = row i; side = first_side G (cell t l i c) })
    step_alike n i h e =
        ap (λ (y : ℕ). restoring y (firsts y)) e ∙ ap (restoring (row i)) (is i h)
      where
        restoring : ℕ → Side → Step
        restoring y s = record { cell = y; side = s }

    pub missing_rows : (n m : ℕ) → Rows n m → missing_steps start firsts n ≡ column_steps G t l c m
    unfolding missing_steps column_steps
    missing_rows zero zero r = refl
    missing_rows zero (suc m) r = absurd (omega (arith, r.low m (omega arith)))
    missing_rows (suc n) m r = go m r (bool_either (start n)) (missing_rows n)
      where
        go :
            (m : ℕ) → Rows (suc n) m → (start n ≡ true) ⊎ (start n ≡ false) →
            ((m : ℕ) → Rows n m → missing_steps start firsts n ≡ column_steps G t l c m) →
            missing_steps start firsts (suc n) ≡ column_steps G t l c m
        go m r (inl e) ih = steps_present start firsts n e ∙ ih m before
          where
            apart : (i : ℕ) → i < m → row i ≡ n → ⊥
            apart i h w = bool_not_both (start n) e (ap start (sym w) ∙ r.missing i h)

            before : Rows n m
            before =
                record {
                  high = r.high;
                  low = λ (i : ℕ) (h : i < m). let a = apart i h in let b = r.low i h in omega arith;
                  missing = r.missing;
                  only = λ (y : ℕ) (h : y < n). r.only y (omega arith);
                }
        go zero r (inr e) ih = let w = r.only n (omega arith) e in absurd (omega (arith, w.1))
        go (suc m) r (inr e) ih = steps_missing start firsts n e ∙ here (r.only n (omega arith) e)
          where
            here :
                (i : ℕ) × (i < suc m) × (n ≡ row i) →
                (record { cell = n; side = firsts n } ∷ missing_steps start firsts n) ≡ column_steps G t l c (suc m)
            here (i, h, w) = cons_same (step_alike n m (omega (arith, r.high)) last) (ih m before)
              where
                top : row m < suc n
                top = r.low m (omega arith)

                last : n ≡ row m
                last = cases (ℕ_discrete i m)
                  where
                    cases : Dec (i ≡ m) → n ≡ row m
                    cases (yes q) = w ∙ ap row q
                    cases (no q) = let up : row i < row m = rows_ascend i m (omega arith) in absurd (omega (arith, top))

                before : Rows n m
                before =
                    record {
                      high = omega (arith, r.high);
                      low = λ (i : ℕ) (h : i < m). let up : row i < row m = rows_ascend i m h in omega (arith, last);
                      missing = λ (i : ℕ) (h : i < m). r.missing i (omega arith);
                      only = λ (y : ℕ) (h : y < n) (q : start y ≡ false). fewer y h (r.only y (omega arith) q);
                    }
                  where
                    fewer : (y : ℕ) → y < n → (i : ℕ) × (i < suc m) × (y ≡ row i) → (i : ℕ) × (i < m) × (y ≡ row i)
                    fewer y h (i, p, q) = (i, cases (ℕ_discrete i m), q)
                      where
                        cases : Dec (i ≡ m) → i < m
                        cases (yes z) = let a : y ≡ row m = q ∙ ap row z in absurd (omega (arith, last))
                        cases (no z) = omega arith

                cons_same :
                    {s s' : Step} {ss ss' : List Step} → s ≡ s' → ss ≡ ss' → (s ∷ ss) ≡ (s' ∷ ss')
                cons_same p q = rw (p, q)

module _ (G : Geometry) (d marks : List ℕ) (x : ℕ) (L : Laid G d) (o : OneLost G marks x) (t : ℕ) (ht : t < tuples_of G) where
  abbrev numbered : CellsNumbered G t
  numbered = the_cells_of_a_tuple_are_numbered G d L t ht

  g_pos : 0 < G.g
  g_pos = omega (arith, L.sound.g_low)

  -- a missing cell stands in a region of x's group, in x's column
  missing_cell :
      (n : ℕ) → n < tuple_cells_of G → here_of G d marks t n ≡ false →
      (group_at G.k d t (cell_numbered G t n).position ≡ x / G.g) × ((cell_numbered G t n).column ≡ x % G.g)
  unfolding here_of cell_numbered
  missing_cell n h e =
      let v = numbered.there n h in
      cell_of_disk G d (cell_numbered G t n) v x (lost_disk G d marks x L o (cell_numbered G t n) v (not-false _ e))

  -- a tuple that names x's group
  module _ (named : names G.k d (x / G.g) t ≡ true) where
    abbrev l : ℕ
    l = position_of G d (x / G.g) t

    l_low : position_of G d (x / G.g) t < G.k
    unfolding position_of
    l_low = position_lt G.k d (x / G.g) t named

    l_group : group_at G.k d t (position_of G d (x / G.g) t) ≡ x / G.g
    unfolding position_of
    l_group = position_holds G.k d (x / G.g) t named

    in_column : (i : ℕ) → i < G.g → CellIn G (cell t l i (x % G.g))
    in_column i h = record { tuple = ht; position = l_low; row = h; column = mod-lt x g_pos }

    column_lost : (i : ℕ) → i < G.g → here_of G d marks t (number_of G (cell t l i (x % G.g))) ≡ false
    unfolding here_of lost place_of
    column_lost i h =
        ap (λ (y : Cell). not (lost G marks (place_of G d y))) (numbered.again (cell t l i (x % G.g)) (in_column i h) refl)
        ∙ not_is_false _ (eq-eqb _ 1 (ap (λ (n : ℕ). get_or marks n 0) disk ∙ o.lost))
      where
        disk : group_at G.k d t l * G.g + x % G.g ≡ x
        disk = rw l_group (div-add-mod' x G.g)

    only_column :
        (n : ℕ) → n < tuple_cells_of G → here_of G d marks t n ≡ false →
        (i : ℕ) × (i < G.g) × (n ≡ number_of G (cell t l i (x % G.g)))
    unfolding cell_numbered position_of
    only_column n h e =
        let a : Cell = cell_numbered G t n in
        let v : CellIn G a = numbered.there n h in
        let both = missing_cell n h e in
        let same : a.position ≡ l =
        sym (position_is G.v G.k (tuples_of G) d L.design t ht a.position (x / G.g) v.position both.0)
        in (
          a.row,
          v.row,
          sym (numbered.back n h)
              ∙ ap (λ (m : ℕ). number_of G (cell t m a.row a.column)) same
              ∙ ap (λ (m : ℕ). number_of G (cell t l a.row m)) both.1,
        )

    named_steps : steps_of G d marks t ≡ column_steps G t l (x % G.g) G.g
    named_steps =
        steps_at_once G d marks x L o t ht
        ∙ missing_rows G t l (x % G.g) g_pos (here_of G d marks t) (first G d marks x L o t ht)
        (λ i h. ap (first_side G) (numbered.again (cell t l i (x % G.g)) (in_column i h) refl)) (tuple_cells_of G) G.g
        (record {
          high = omega arith;
          low = λ (i : ℕ) (h : i < G.g). numbered.low (cell t l i (x % G.g)) (in_column i h);
          missing = column_lost;
          only = only_column;
        })

  -- one that does not
  other_steps : names G.k d (x / G.g) t ≡ false → steps_of G d marks t ≡ []
  unfolding column_steps cell_numbered
  other_steps not_named =
      steps_at_once G d marks x L o t ht
      ∙ missing_rows G t 0 0 g_pos (here_of G d marks t) (first G d marks x L o t ht)
      (λ i h. ap (first_side G) (numbered.again (cell t 0 i 0)
      (record { tuple = ht; position = omega (arith, L.sound.limits.k_low); row = h; column = g_pos }) refl))
      (tuple_cells_of G) 0
      (record {
        high = omega arith;
        low = λ (i : ℕ) (h : i < 0). absurd (omega arith);
        missing = λ (i : ℕ) (h : i < 0). absurd (omega arith);
        only = λ (n : ℕ) (h : n < tuple_cells_of G) (e : here_of G d marks t n ≡ false).
            bool_not_both (names G.k d (x / G.g) t)
            (in_names G.k d (x / G.g) t
            ((cell_numbered G t n).position, (numbered.there n h).position, (missing_cell n h e).0))
            not_named;
      })

pub the_passes_of_one_lost_disk : ThePassesOfOneLostDisk
unfolding disk_steps
the_passes_of_one_lost_disk G d marks x L o t ht = go (names G.k d (x / G.g) t) refl
  where
    go :
        (b : Bool) → names G.k d (x / G.g) t ≡ b →
        steps_of G d marks t ≡ cond b (column_steps G t (position_of G d (x / G.g) t) (x % G.g) G.g) []
    go true e = named_steps G d marks x L o t ht e
    go false e = other_steps G d marks x L o t ht e
