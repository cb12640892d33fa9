-- The passes over a tuple as a whole: left at once, or gone through from the start. Assumes nothing.
use Prim.Native.Nat.{ℕ, ◌+◌, ◌*◌, ◌≤◌}
use mathlib.Core.Path.{◌≡◌, ◌∙◌, ap}
use mathlib.Core.Bool.{Bool, true, false, not}
use mathlib.Core.List.{List}
use native.Mathlib.Omega.{arith}
use lib.ListN.{get_or, length}
use Rattle.counting.specs.Counting.{any_below}
use Rattle.counting.proofs.Laws.{count_le}
use Rattle.geometry.specs.declared.Geometry.{Geometry}
use Rattle.design.specs.Design.{group_at}
use Rattle.reaching.specs.Reach.{tuple_cells_of}
use Rattle.reaching.specs.State.{State, state, seen, missing, Room, passed, start_flag, start_flags, touched_of, all_seen}
use Rattle.reaching.specs.State.{ReachRoom, reached_state, reached_all}
use Rattle.reaching.proofs.Fills.{length_tests}
use Rattle.reaching.proofs.Turns.{Kept, passed_kept}

-- ---- the lost disks of a tuple

-- a disk of the group at position l is lost
abbrev pub lost_at : Geometry → List ℕ → (lost : List Bool) → (t l : ℕ) → Bool
lost_at G d lost t l = any_below (λ (x : ℕ). get_or lost (group_at G.k d t l * G.g + x) false) G.g

-- ---- the whole

module _ (G : Geometry) (d : List ℕ) (lost : List Bool) (t : ℕ) (flags : List Bool) (log : List ℕ) (b : Bool) (e : b ≡ touched_of G d lost t) where
  pub reach_left : not b ≡ true → (state flags log 0 ≡ reached_state G d lost t flags log) × (true ≡ reached_all G d lost t flags log)
  unfolding reached_state reached_all
  reach_left p = (rw (← e, p), rw (← e, p))

  module _ (m : ReachRoom G lost flags log) (start : List Bool) (a : start ≡ start_flags G d lost t) where
    start_long : length start ≡ tuple_cells_of G
    start_long = ap length a ∙ length_tests (start_flag G d lost t) (tuple_cells_of G)

    pub start_room : Room G (state start log 0)
    start_room =
        let l : missing start ≤ length start = count_le (λ (n : ℕ). not (seen start n)) (length start) in
        record { flags = start_long; log = omega (arith, start_long, m.room) }

    module _ (s : State) (w : s ≡ passed G t (tuple_cells_of G) (state start log 0)) where
      kept : Kept (state start log 0) s
      kept = rw w (passed_kept G t (tuple_cells_of G) (state start log 0) (omega (arith, start_long)))

      pub start_passed_long : length s.flags ≡ tuple_cells_of G
      start_passed_long = kept.flags ∙ start_long

      reach_state : not b ≡ false → s ≡ reached_state G d lost t flags log
      unfolding reached_state
      reach_state p = rw (← e, p, ← a) w

      pub reach_end :
          not b ≡ false → (r : Bool) → r ≡ all_seen s.flags
          → (s ≡ reached_state G d lost t flags log) × (r ≡ reached_all G d lost t flags log)
      unfolding reached_all
      reach_end p r q = (reach_state p, rw (← e, p, ← reach_state p) q)
