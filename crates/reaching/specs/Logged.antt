-- What is proved of the log: it is what the passes restore, whatever flags and log held before. Assumes nothing.
use Rattle.std.specs.Prelude.{ℕ, ◌*◌, ◌≤◌, ◌<◌, ◌≡◌, Bool, false, not, List, eqb, get_or, length}
use Rattle.geometry.specs.declared.Geometry.{Geometry}
use Rattle.geometry.specs.Geometry.{tuples_of, disks_of}
use Rattle.design.specs.Design.{Laid}
use Rattle.peeling.specs.Peeling.{present_after}
use Rattle.reaching.specs.Reach.{tuple_cells_of, here_of, steps_of, incomplete}
use Rattle.reaching.specs.State.{State, state, seen, Room, passed, log_steps, ReachRoom, reached_state, reached_all}

-- the state after the passes: the log lists their steps, each entry of a cell of the tuple, and the flags say which cells are
-- present
pub record Logged (G : Geometry) (d marks : List ℕ) (t : ℕ) (s : State) : Type 0 where
  pub steps : log_steps G t s.log s.count ≡ steps_of G d marks t
  pub count : s.count ≡ length (steps_of G d marks t)
  pub room : s.count ≤ length s.log
  pub low : (i : ℕ) → i < s.count → get_or s.log i 0 < 2 * tuple_cells_of G
  pub flags : (n : ℕ) → n < tuple_cells_of G → seen s.flags n ≡ present_after (here_of G d marks t) (steps_of G d marks t) n

-- "Passes repeat until one restores nothing": from flags that say what is present at the start, and an empty log
abbrev pub TheLogListsWhatThePassesRestore : Type 0
TheLogListsWhatThePassesRestore =
    (G : Geometry) (d : List ℕ) → Laid G d → (marks : List ℕ) (t : ℕ) → t < tuples_of G → (flags : List Bool) (log : List ℕ)
    → Room G (state flags log 0) → ((n : ℕ) → n < tuple_cells_of G → seen flags n ≡ here_of G d marks t n)
    → Logged G d marks t (passed G t (tuple_cells_of G) (state flags log 0))

-- "0 present and 1 lost": the disks' flags are their marks
abbrev pub LostAs : Geometry → (marks : List ℕ) → (lost : List Bool) → Type 0
LostAs G marks lost = (x : ℕ) → x < disks_of G → get_or lost x false ≡ eqb (get_or marks x 0) 1

-- what is known of a tuple when its passes have ended: what they restored, and whether "rebuild leaves a tuple incomplete"
pub record Ended (G : Geometry) (d marks : List ℕ) (t : ℕ) (s : State) (complete : Bool) : Type 0 where
  pub steps : log_steps G t s.log s.count ≡ steps_of G d marks t
  pub count : s.count ≡ length (steps_of G d marks t)
  pub room : s.count ≤ length s.log
  pub low : (i : ℕ) → i < s.count → get_or s.log i 0 < 2 * tuple_cells_of G
  pub whole : complete ≡ not (incomplete G d marks t)

abbrev pub ATupleEndsAsItsPassesDo : Type 0
ATupleEndsAsItsPassesDo =
    (G : Geometry) (d : List ℕ) → Laid G d → (marks : List ℕ) (lost : List Bool) → LostAs G marks lost → (t : ℕ) → t < tuples_of G
    → (flags : List Bool) (log : List ℕ) → ReachRoom G lost flags log
    → Ended G d marks t (reached_state G d lost t flags log) (reached_all G d lost t flags log)
