-- The passes over flags and log do what the passes of the definition do, step by step. Assumes nothing.
use Prim.Native.Nat.{ℕ, zero, suc, ◌+◌, ◌-◌, ◌*◌, ◌/◌, ◌≤◌, ◌<◌}
use mathlib.Core.Path.{◌≡◌, ◌∙◌, ap, ap₂, sym, refl}
use mathlib.Core.Bool.{Bool, true, false, not, cond, ◌&&◌, ◌||◌}
use mathlib.Core.Logic.{◌⊎◌, inl, inr}
use mathlib.Core.List.{List, [], ◌∷◌}
use native.Mathlib.Decide.{ℕ_discrete}
use native.Mathlib.Nat.{mul_comm}
use native.Mathlib.Numerals.{add-one}
use native.Mathlib.Omega.{arith}
use lib.Arith.{digits_div, digits_mod}
use lib.Dec.{ltb, eqb}
use lib.ListN.{get_or, length, set}
use lib.Seq.{get_or-set_same, get_or-set_other}
use borrow.Author.Tests.{eqb-true, eqb-false}
use Rattle.counting.proofs.Bools.{bool_either, bool_not_both, right_or}
use Rattle.counting.proofs.Laws.{any_same}
use Rattle.std.specs.Prelude.{Option, Some, None}
use Rattle.std.proofs.Math.Bool.{or-false}
use Rattle.geometry.specs.declared.Geometry.{Geometry}
use Rattle.geometry.specs.Geometry.{Sound, tuples_of}
use Rattle.cells.specs.Ranges.{CellIn}
use Rattle.peeling.specs.Peeling.{Side, Step, lacks_only, restored, present_after, or_else, tried, visit, sweep, passes, peeled}
use Rattle.reaching.specs.Reach.{tuple_cells_of, cell_numbered, outer_side, inner_side, sides_of, here_of, steps_of}
use Rattle.reaching.specs.declared.Kind.{Kind}
use Rattle.reaching.specs.declared.Kind.TheVariants.{Outer, Inner}
use Rattle.reaching.specs.State.{State, state, seen, Room, outer_restores, first_of, kind_of, kind_number, restored_by, restored_if}
use Rattle.reaching.specs.State.{stay, visited, swept, passed, kind_side, kind_in, step_of, log_steps}
use Rattle.reaching.specs.Logged.{TheLogListsWhatThePassesRestore}
use Rattle.reaching.proofs.Numbers.{cell_in}
use Rattle.reaching.proofs.Members.{outer_unit_low, inner_unit_low}
use Rattle.reaching.proofs.Turns.{kept_restored, room_kept}
use Rattle.reaching.proofs.Visits.{room_for}

-- ---- entries

-- a later entry leaves the earlier ones
log_below : (G : Geometry) (t : ℕ) (log : List ℕ) (i e m : ℕ) → m ≤ i → log_steps G t (set log i e) m ≡ log_steps G t log m
unfolding log_steps
log_below G t log i e zero h = refl
log_below G t log i e (suc m) h =
    let w : get_or (set log i e) m 0 ≡ get_or log m 0 = get_or-set_other log i m e 0 (λ (z : m ≡ i). omega arith) in
    rw (w, log_below G t log i e m (omega arith))

kind_low : (kind : Kind) → kind_number kind < 2
kind_low Outer = omega arith
kind_low Inner = omega arith

entry_cell : (n : ℕ) (kind : Kind) → (2 * n + kind_number kind) / 2 ≡ n
entry_cell n kind = rw (mul_comm 2 n) (digits_div n (kind_low kind))

entry_kind : (n : ℕ) (kind : Kind) → kind_in (2 * n + kind_number kind) ≡ kind
entry_kind n kind = rw (mul_comm 2 n, digits_mod n (kind_low kind)) (back kind)
  where
    back : (k : Kind) → cond (eqb (kind_number k) 0) Outer Inner ≡ k
    back Outer = refl
    back Inner = refl

-- the step of a cell and a kind
abbrev step_by : Geometry → (t n : ℕ) → Kind → Step
step_by G t n kind = record { cell = n; side = kind_side G (cell_numbered G t n) kind }

step_is : (G : Geometry) (t n : ℕ) (kind : Kind) → step_of G t (2 * n + kind_number kind) ≡ step_by G t n kind
unfolding step_of
step_is G t n kind = rw (entry_cell n kind, entry_kind n kind)

-- ---- the trial of a cell's sets

-- the steps after a visit to a missing cell, by what its sets gave
abbrev found_steps : (Kind → Step) → List Step → Option Kind → List Step
found_steps step ss None = ss
found_steps step ss (Some kind) = step kind ∷ ss

both_tried : (b c : Bool) (step : Kind → Step) (ss : List Step) → or_else b (step Outer ∷ ss) (or_else c (step Inner ∷ ss) ss) ≡ found_steps step ss (first_of b c)
both_tried true c step ss = refl
both_tried false true step ss = refl
both_tried false false step ss = refl

module _ (G : Geometry) (t : ℕ) (p : ℕ → Bool) (n : ℕ) (ss : List Step) where
  tried_is : tried p n (sides_of G t n) ss ≡ found_steps (step_by G t n) ss (kind_of G t p n)
  unfolding tried sides_of kind_of outer_restores
  tried_is = go (ltb (cell_numbered G t n).row (G.g - 1))
    where
      go :
          (a : Bool)
          → tried p n (cond a (outer_side G (cell_numbered G t n) ∷ inner_side G (cell_numbered G t n) ∷ []) (inner_side G (cell_numbered G t n) ∷ [])) ss
          ≡ found_steps (step_by G t n) ss
          (first_of (a && lacks_only p (outer_side G (cell_numbered G t n))) (lacks_only p (inner_side G (cell_numbered G t n))))
      go true = both_tried (lacks_only p (outer_side G (cell_numbered G t n))) (lacks_only p (inner_side G (cell_numbered G t n))) (step_by G t n) ss
      go false = both_tried false (lacks_only p (inner_side G (cell_numbered G t n))) (step_by G t n) ss

-- two views that agree below m find the same
lacks_same :
    (p q : ℕ → Bool) (m : ℕ) (v : Side) → ((n : ℕ) → n < m → p n ≡ q n) → ((i : ℕ) → i < v.size → v.member i < m)
    → lacks_only p v ≡ lacks_only q v
unfolding lacks_only
lacks_same p q m v e h =
    ap not
    (any_same (λ (i : ℕ). not (eqb i v.own) && not (p (v.member i))) (λ (i : ℕ). not (eqb i v.own) && not (q (v.member i))) v.size
    (λ (i : ℕ) (l : i < v.size). ap (λ (b : Bool). not (eqb i v.own) && not b) (e (v.member i) (h i l))))

kind_same :
    (G : Geometry) (t : ℕ) (p q : ℕ → Bool) (n : ℕ) → Sound G → t < tuples_of G → n < tuple_cells_of G
    → ((m : ℕ) → m < tuple_cells_of G → p m ≡ q m) → kind_of G t p n ≡ kind_of G t q n
unfolding kind_of outer_restores
kind_same G t p q n s b h e =
    let w : CellIn G (cell_numbered G t n) = cell_in G s t b n h in
    rw (
      lacks_same p q (tuple_cells_of G) (outer_side G (cell_numbered G t n)) e (outer_unit_low G (cell_numbered G t n) s w),
      lacks_same p q (tuple_cells_of G) (inner_side G (cell_numbered G t n)) e (inner_unit_low G (cell_numbered G t n) s w),
    )

-- ---- the state and the steps

module _ (G : Geometry) (t : ℕ) (start : ℕ → Bool) where
  record Says (ss : List Step) (s : State) : Type 0 where
    flags : (n : ℕ) → n < tuple_cells_of G → seen s.flags n ≡ present_after start ss n
    count : s.count ≡ length ss
    steps : log_steps G t s.log s.count ≡ ss
    low : (i : ℕ) → i < s.count → get_or s.log i 0 < 2 * tuple_cells_of G
    room : Room G s

  -- one more step
  flags_more :
      (ss : List Step) (s : State) (n : ℕ) (kind : Kind) → Says ss s → n < tuple_cells_of G → (m : ℕ) → m < tuple_cells_of G
      → seen (set s.flags n true) m ≡ present_after start (step_by G t n kind ∷ ss) m
  unfolding present_after restored
  flags_more ss s n kind w h m l = go (bool_either (eqb n m)) (w.flags m l)
    where
      go : (eqb n m ≡ true) ⊎ (eqb n m ≡ false) → seen s.flags m ≡ (start m || restored ss m) → seen (set s.flags n true) m ≡ (start m || (eqb n m || restored ss m))
      go (inl e) f =
          let z : n ≡ m = eqb-true n m e in
          let k : n < length s.flags = omega (arith, w.room.flags) in
          rw (e, ← z, get_or-set_same s.flags n true false k) (sym (right_or (start n) true refl))
      go (inr e) f = rw (e, get_or-set_other s.flags n m true false (λ (z : m ≡ n). eqb-false n m e (sym z))) f

  module _ (ss : List Step) (s : State) (n : ℕ) (w : Says ss s) (h : n < tuple_cells_of G) (p : present_after start ss n ≡ false) where
    missing_at : seen s.flags n ≡ false
    missing_at = w.flags n h ∙ p

    steps_more :
        (kind : Kind)
        → log_steps G t (set s.log s.count (2 * n + kind_number kind)) (s.count + 1) ≡ step_by G t n kind ∷ ss
    unfolding log_steps
    steps_more kind =
        rw (
          add-one s.count,
          get_or-set_same s.log s.count (2 * n + kind_number kind) 0 (room_for G s n w.room h missing_at),
          step_is G t n kind,
          log_below G t s.log s.count (2 * n + kind_number kind) s.count (omega arith),
          w.steps,
        )

    -- the new entry is of a cell of the tuple too
    low_more :
        (kind : Kind) → (i : ℕ) → i < s.count + 1
        → get_or (set s.log s.count (2 * n + kind_number kind)) i 0 < 2 * tuple_cells_of G
    low_more kind i l = go (ℕ_discrete i s.count)
      where
        go : Dec (i ≡ s.count) → get_or (set s.log s.count (2 * n + kind_number kind)) i 0 < 2 * tuple_cells_of G
        go (yes e) =
            rw (e, get_or-set_same s.log s.count (2 * n + kind_number kind) 0 (room_for G s n w.room h missing_at))
            (omega (arith, kind_low kind))
        go (no e) = rw (get_or-set_other s.log s.count i (2 * n + kind_number kind) 0 e) (w.low i (omega arith))

    says_more : (kind : Kind) → Says (step_by G t n kind ∷ ss) (restored_by s n kind)
    unfolding restored_by
    says_more kind =
        record {
          flags = flags_more ss s n kind w h;
          count = rw w.count (add-one (length ss));
          steps = steps_more kind;
          low = low_more kind;
          room =
              room_kept G s (restored_by s n kind)
              (kept_restored s n kind (omega (arith, w.room.flags)) missing_at) w.room;
        }

  module _ (sound : Sound G) (b : t < tuples_of G) where
    visit_says :
        (n : ℕ) → n < tuple_cells_of G → (ss : List Step) (s : State) → Says ss s
        → Says (visit start (sides_of G t) n ss) (visited G t n s)
    unfolding visit visited
    visit_says n h ss s w =
        rw (tried_is G t (present_after start ss) n ss, w.flags n h, kind_same G t (seen s.flags) (present_after start ss) n sound b h w.flags)
        (go (present_after start ss n) refl (kind_of G t (present_after start ss) n))
      where
        go :
            (a : Bool) → present_after start ss n ≡ a → (found : Option Kind)
            → Says (or_else a ss (found_steps (step_by G t n) ss found)) (stay a s (restored_if s n found))
        go true p found = w
        go false p None = w
        go false p (Some kind) = says_more ss s n w h p kind

    sweep_says :
        (n : ℕ) → n ≤ tuple_cells_of G → (ss : List Step) (s : State) → Says ss s
        → Says (sweep start (sides_of G t) n ss) (swept G t n s)
    unfolding sweep swept
    sweep_says zero h ss s w = w
    sweep_says (suc n) h ss s w =
        visit_says n (omega arith) (sweep start (sides_of G t) n ss) (swept G t n s) (sweep_says n (omega arith) ss s w)

    passes_says :
        (fuel : ℕ) (ss : List Step) (s : State) → Says ss s
        → Says (passes start (sides_of G t) (tuple_cells_of G) fuel ss) (passed G t fuel s)
    unfolding passes passed
    passes_says zero ss s w = w
    passes_says (suc fuel) ss s w =
        let v : Says (sweep start (sides_of G t) (tuple_cells_of G) ss) (swept G t (tuple_cells_of G) s) =
        sweep_says (tuple_cells_of G) (omega arith) ss s w in
        go
        (eqb (length (sweep start (sides_of G t) (tuple_cells_of G) ss)) (length ss))
        (eqb (swept G t (tuple_cells_of G) s).count s.count)
        (ap₂ eqb v.count w.count)
        (passes_says fuel (sweep start (sides_of G t) (tuple_cells_of G) ss) (swept G t (tuple_cells_of G) s) v)
      where
        go :
            (a c : Bool) → c ≡ a
            → Says (passes start (sides_of G t) (tuple_cells_of G) fuel (sweep start (sides_of G t) (tuple_cells_of G) ss))
            (passed G t fuel (swept G t (tuple_cells_of G) s))
            → Says (or_else a ss (passes start (sides_of G t) (tuple_cells_of G) fuel (sweep start (sides_of G t) (tuple_cells_of G) ss)))
            (stay c s (passed G t fuel (swept G t (tuple_cells_of G) s)))
        go true true e v = w
        go false false e v = v
        go true false e v = bool_not_both true refl (sym e)
        go false true e v = bool_not_both true refl e

    -- at the start nothing is restored
    says_start :
        (flags : List Bool) (log : List ℕ) → Room G (state flags log 0)
        → ((n : ℕ) → n < tuple_cells_of G → seen flags n ≡ start n) → Says [] (state flags log 0)
    unfolding log_steps present_after restored
    says_start flags log m e =
        record {
          flags = λ (n : ℕ) (h : n < tuple_cells_of G). e n h ∙ sym (or-false (start n));
          count = refl;
          steps = refl;
          low = λ (i : ℕ) (h : i < 0). absurd (omega arith);
          room = m;
        }

pub the_log_lists_what_the_passes_restore : TheLogListsWhatThePassesRestore
unfolding steps_of peeled
the_log_lists_what_the_passes_restore G d l marks t b flags log m e =
    let w : Says G t (here_of G d marks t) (passes (here_of G d marks t) (sides_of G t) (tuple_cells_of G) (tuple_cells_of G) []) (passed G t (tuple_cells_of G) (state flags log 0)) =
    passes_says G t (here_of G d marks t) l.sound b (tuple_cells_of G) [] (state flags log 0)
    (says_start G t (here_of G d marks t) l.sound b flags log m e) in
    record {
      steps = w.steps;
      count = w.count;
      room = omega (arith, w.room.log);
      low = w.low;
      flags = w.flags;
    }
