-- A tuple ends as its passes do, whether it is left at once or gone through. Assumes nothing.
use Prim.Native.Nat.{ℕ, zero, suc, ◌+◌, ◌*◌, ◌/◌, ◌%◌, ◌≤◌, ◌<◌}
use mathlib.Core.Path.{◌≡◌, ◌∙◌, ap, sym, refl}
use mathlib.Core.Bool.{Bool, true, false, not}
use mathlib.Core.Logic.{◌⊎◌, inl, inr}
use mathlib.Core.List.{List, [], ◌∷◌, ◌++◌}
use native.Mathlib.Omega.{arith}
use lib.Dec.{ltb}
use lib.ListN.{get_or, length, get_or-append}
use lib.Seq.{get_or_at}
use borrow.Author.Tests.{ltb-true, ltb-false}
use Rattle.counting.specs.Counting.{any_below}
use Rattle.counting.proofs.Bools.{bool_either}
use Rattle.counting.proofs.Laws.{any_none, none_any, any_same}
use Rattle.geometry.specs.declared.Geometry.{Geometry}
use Rattle.geometry.specs.Geometry.{tuples_of}
use Rattle.design.specs.Design.{group_at, Laid}
use Rattle.cells.specs.Ranges.{CellIn}
use Rattle.layout.specs.Marks.{lost}
use Rattle.layout.specs.Places.{place_of}
use Rattle.layout.proofs.Theorems.{cells_are_places}
use Rattle.peeling.specs.Peeling.{Side, restored, present_after, visit, sweep, passes, peeled}
use Rattle.reaching.specs.Reach.{tuple_cells_of, cell_numbered, sides_of, here_of, steps_of, incomplete}
use Rattle.reaching.specs.State.{State, state, seen, passed, log_steps, tests_of, start_flag, start_flags, touched_of}
use Rattle.reaching.specs.State.{all_seen, ReachRoom, reached_state, reached_all}
use Rattle.reaching.specs.Logged.{Logged, LostAs, Ended, ATupleEndsAsItsPassesDo}
use Rattle.reaching.proofs.Numbers.{cell_in}
use Rattle.reaching.proofs.Fills.{length_tests}
use Rattle.reaching.proofs.Whole.{lost_at, start_room, start_passed_long}
use Rattle.reaching.proofs.Logs.{the_log_lists_what_the_passes_restore}

-- ---- where nothing is missing nothing is restored

module _ (start : ℕ → Bool) (sides : ℕ → List Side) (n : ℕ) (here : (x : ℕ) → x < n → start x ≡ true) where
  sweep_nothing : (m : ℕ) → m ≤ n → sweep start sides m [] ≡ []
  unfolding sweep visit present_after
  sweep_nothing zero h = refl
  sweep_nothing (suc m) h = rw (sweep_nothing m (omega arith), here m (omega arith))

  passes_nothing : (fuel : ℕ) → passes start sides n fuel [] ≡ []
  unfolding passes
  passes_nothing zero = refl
  passes_nothing (suc fuel) = rw (sweep_nothing n (omega arith))

  peeled_nothing : peeled start sides n ≡ []
  unfolding peeled
  peeled_nothing = passes_nothing n

-- ---- the flags at the start

abbrev end_state : Geometry → List ℕ → (lost : List Bool) → (t : ℕ) → List ℕ → State
end_state G d lost t log = passed G t (tuple_cells_of G) (state (start_flags G d lost t) log 0)

tests_at : (f : ℕ → Bool) (n i : ℕ) → i < n → get_or (tests_of f n) i false ≡ f i
unfolding tests_of
tests_at f zero i h = absurd (omega arith)
tests_at f (suc n) i h = go (bool_either (ltb i n)) (λ (p : i < n). tests_at f n i p)
  where
    go : (ltb i n ≡ true) ⊎ (ltb i n ≡ false) → (i < n → get_or (tests_of f n) i false ≡ f i) → get_or (tests_of f n ++ (f n ∷ [])) i false ≡ f i
    go (inl p) ih =
        let l : i < length (tests_of f n) = omega (arith, length_tests f n, ltb-true i n p) in
        get_or-append (tests_of f n) (f n ∷ []) false i l ∙ ih (ltb-true i n p)
    go (inr p) ih =
        let q : n ≤ i = ltb-false i n p in
        let e : i ≡ n = omega arith in
        rw e (get_or_at (tests_of f n) (f n) [] false n (length_tests f n))

held_at :
    (G : Geometry) (d : List ℕ) (disks : List Bool) (t n : ℕ) → touched_of G d disks t ≡ false → (cell_numbered G t n).position < G.k
    → (cell_numbered G t n).column < G.g → start_flag G d disks t n ≡ true
unfolding touched_of start_flag place_of cell_numbered
held_at G d disks t n p l c =
    ap not
    (any_none (λ (x : ℕ). get_or disks (group_at G.k d t (n / G.g / G.g) * G.g + x) false) G.g
    (any_none (lost_at G d disks t) G.k p (n / G.g / G.g) l) (n % G.g) c)

module _ (G : Geometry) (d : List ℕ) (w : Laid G d) (marks : List ℕ) (disks : List Bool) (a : LostAs G marks disks) (t : ℕ) (b : t < tuples_of G) where
  start_here : (n : ℕ) → n < tuple_cells_of G → start_flag G d disks t n ≡ here_of G d marks t n
  unfolding start_flag here_of lost
  start_here n h =
      ap not (a (place_of G d (cell_numbered G t n)).disk.0 ((cells_are_places G d w).there (cell_numbered G t n) (cell_in G w.sound t b n h)).disk)

  -- where no lost disk touches the tuple every cell is present
  all_here : touched_of G d disks t ≡ false → (n : ℕ) → n < tuple_cells_of G → here_of G d marks t n ≡ true
  all_here p n h = sym (start_here n h) ∙ not_lost
    where
      c : CellIn G (cell_numbered G t n)
      c = cell_in G w.sound t b n h

      not_lost : start_flag G d disks t n ≡ true
      not_lost = held_at G d disks t n p c.position c.column

  -- left at once
  ended_left : (flags : List Bool) (log : List ℕ) → touched_of G d disks t ≡ false → Ended G d marks t (state flags log 0) true
  unfolding incomplete steps_of log_steps present_after restored
  ended_left flags log p =
      record {
        steps = sym nothing;
        count = sym (ap length nothing);
        room = omega arith;
        low = λ (i : ℕ) (h : i < 0). absurd (omega arith);
        whole = sym (ap not none);
      }
    where
      nothing : peeled (here_of G d marks t) (sides_of G t) (tuple_cells_of G) ≡ []
      nothing = peeled_nothing (here_of G d marks t) (sides_of G t) (tuple_cells_of G) (all_here p)

      none :
          any_below
          (λ (n : ℕ). not (present_after (here_of G d marks t) (peeled (here_of G d marks t) (sides_of G t) (tuple_cells_of G)) n))
          (tuple_cells_of G)
          ≡ false
      none =
          rw nothing
          (none_any (λ (n : ℕ). not (present_after (here_of G d marks t) [] n)) (tuple_cells_of G)
          (λ (n : ℕ) (h : n < tuple_cells_of G). rw (all_here p n h)))

  -- gone through
  module _ (flags : List Bool) (log : List ℕ) (m : ReachRoom G disks flags log) where
    logged : Logged G d marks t (end_state G d disks t log)
    logged =
        the_log_lists_what_the_passes_restore G d w marks t b (start_flags G d disks t) log
        (start_room G d disks t flags log (touched_of G d disks t) refl m (start_flags G d disks t) refl)
        (λ (n : ℕ) (h : n < tuple_cells_of G). tests_at (start_flag G d disks t) (tuple_cells_of G) n h ∙ start_here n h)

    end_long : length (end_state G d disks t log).flags ≡ tuple_cells_of G
    end_long = start_passed_long G d disks t flags log (touched_of G d disks t) refl m (start_flags G d disks t) refl (end_state G d disks t log) refl

    ended_through : Ended G d marks t (end_state G d disks t log) (all_seen (end_state G d disks t log).flags)
    unfolding incomplete all_seen
    ended_through =
        record {
          steps = logged.steps;
          count = logged.count;
          room = logged.room;
          low = logged.low;
          whole =
              rw end_long
              (ap not
              (any_same (λ (n : ℕ). not (seen (end_state G d disks t log).flags n))
              (λ (n : ℕ). not (present_after (here_of G d marks t) (steps_of G d marks t) n)) (tuple_cells_of G)
              (λ (n : ℕ) (h : n < tuple_cells_of G). ap not (logged.flags n h))));
        }

pub a_tuple_ends_as_its_passes_do : ATupleEndsAsItsPassesDo
unfolding reached_state reached_all
a_tuple_ends_as_its_passes_do G d w marks disks a t b flags log m = go (bool_either (touched_of G d disks t))
  where
    go : (touched_of G d disks t ≡ true) ⊎ (touched_of G d disks t ≡ false) → Ended G d marks t (reached_state G d disks t flags log) (reached_all G d disks t flags log)
    go (inl p) = rw p (ended_through G d w marks disks a t b flags log m)
    go (inr p) = rw p (ended_left G d w marks disks a t b flags log p)
