-- The two phases of the rebuild, tuple by tuple: the search for one that is incomplete, and the bytes. Assumes nothing.
use Prim.Native.Nat.{ℕ, ◌+◌, ◌*◌, ◌≤◌, ◌<◌}
use mathlib.Core.Path.{◌≡◌, refl, sym, ap, ap₂, subst, subst⁻¹, ◌∙◌}
use mathlib.Core.Bool.{Bool, true, false, not, cond}
use mathlib.Core.List.{List, map}
use native.Mathlib.Numerals.{add-one}
use native.Mathlib.Omega.{arith}
use lib.Dec.{eqb}
use lib.ListN.{get_or, length, take, replicate, length-replicate, get_or-map}
use lib.Seq.{length-take-le}
use borrow.Author.Tests.{not-true, not-false}
use borrow.Author.Count.{below_more}
use Rattle.std.specs.Prelude.{Some, None}
use Rattle.counting.specs.Counting.{first_below}
use Rattle.counting.proofs.Laws.{first_is, first_none}
use Rattle.geometry.specs.declared.Geometry.{Geometry}
use Rattle.geometry.specs.Geometry.{tuples_of, disks_of, bytes_of}
use Rattle.design.specs.Design.{Laid}
use Rattle.peeling.specs.Peeling.{Step}
use Rattle.reaching.specs.Reach.{tuple_cells_of, incomplete}
use Rattle.reaching.specs.State.{state, log_steps, ReachRoom, reached_state, reached_all}
use Rattle.reaching.specs.Logged.{LostAs, Ended}
use Rattle.reaching.proofs.Ends.{a_tuple_ends_as_its_passes_do}
use Rattle.reaching.proofs.Visits.{cells_few}
use Rattle.replaying.specs.Replay.{replayed, LogIn}
use Rattle.replaying.proofs.Entries.{steps_front, ended_log}
use Rattle.rebuilding.specs.Rebuild.{rebuilt_below, rebuilt_of, restored_below, restored_of}
use Rattle.rebuilding.specs.Marked.{ForMarks}

-- ---- flags and marks

mark_is : (b : Bool) → b ≡ eqb (cond b 1 0) 1
mark_is true = refl
mark_is false = refl

-- some marks are these flags
marks_of : List Bool → List ℕ
marks_of lost = map (λ (b : Bool). cond b 1 0) lost

flags_are_marks : (G : Geometry) (lost : List Bool) → LostAs G (marks_of lost) lost
unfolding marks_of
flags_are_marks G lost x h =
    mark_is (get_or lost x false) ∙ ap (λ (n : ℕ). eqb n 1) (sym (get_or-map (λ (b : Bool). cond b 1 0) lost x false))

-- ---- the room for a tuple's flags and log

pub record Rooms (G : Geometry) (flags : List Bool) (log : List ℕ) : Type 0 where
  pub cells : length flags ≡ tuple_cells_of G
  pub entries : length log ≡ tuple_cells_of G

pub front_made : {A : Type 0} (n : ℕ) (x : A) → n ≤ 1690 → n ≡ length (take n (replicate 1690 x))
front_made n x h = sym (length-take-le n (replicate 1690 x) (rw (length-replicate 1690 x) h))

pub rooms_made : (G : Geometry) (n : ℕ) → n ≡ tuple_cells_of G → n ≤ 1690 → Rooms G (take n (replicate 1690 false)) (take n (replicate {A = ℕ} 1690 0))
rooms_made G n e h = record { cells = sym (front_made n false h) ∙ e; entries = sym (front_made {A = ℕ} n 0 h) ∙ e }

module _ {G : Geometry} {flags : List Bool} {log : List ℕ} (m : Rooms G flags log) where
  pub rooms_reach : (lost : List Bool) → length lost ≡ disks_of G → ReachRoom G lost flags log
  rooms_reach lost e = record { disks = e; cells = m.cells; room = omega (arith, m.entries) }

  pub rooms_kept : (f : List Bool) (l : List ℕ) → length f ≡ length flags → length l ≡ length log → Rooms G f l
  rooms_kept f l p q = record { cells = p ∙ m.cells; entries = q ∙ m.entries }

-- ---- one tuple

module _ (G : Geometry) (d : List ℕ) (L : Laid G d) (lost : List Bool) (long : length lost ≡ disks_of G) (t : ℕ) (h : t < tuples_of G)
    {flags : List Bool} {log : List ℕ} (m : Rooms G flags log) (f : List Bool) (l : List ℕ) (count : ℕ) (complete : Bool)
    (is : state f l count ≡ reached_state G d lost t flags log) (all : complete ≡ reached_all G d lost t flags log) where
  pub ended : ForMarks G lost (λ marks. Ended G d marks t (state f l count) complete)
  ended marks w = rw (is, all) (a_tuple_ends_as_its_passes_do G d L marks lost w t h flags log (rooms_reach m lost long))

  log_ended : Ended G d (marks_of lost) t (state f l count) complete
  log_ended = ended (marks_of lost) (flags_are_marks G lost)

-- ---- the search

pub record Searching (G : Geometry) (d : List ℕ) (lost flags : List Bool) (log : List ℕ) (t : ℕ) : Type 0 where
  pub rooms : Rooms G flags log
  pub before : ForMarks G lost (λ marks. (s : ℕ) → s < t → incomplete G d marks s ≡ false)

module _ {G : Geometry} {d : List ℕ} (L : Laid G d) {lost : List Bool} (long : length lost ≡ disks_of G) {flags : List Bool}
    {log : List ℕ} {t : ℕ} (s : Searching G d lost flags log t) where
  module _ (h : t < tuples_of G) (f : List Bool) (l : List ℕ) (count : ℕ) (complete : Bool)
      (is : state f l count ≡ reached_state G d lost t flags log) (all : complete ≡ reached_all G d lost t flags log) where
    whole : ForMarks G lost (λ marks. complete ≡ not (incomplete G d marks t))
    whole marks w = (ended G d L lost long t h s.rooms f l count complete is all marks w).whole

    pub searching_more :
        length f ≡ length flags → length l ≡ length log → not complete ≡ false → Searching G d lost f l (t + 1)
    searching_more p q e = record {
      rooms = rooms_kept s.rooms f l p q;
      before =
          λ marks w. below_more _ _ (s.before marks w) (not-true _ (sym (whole marks w) ∙ not-false _ e));
    }

    pub searching_found : not complete ≡ true → ForMarks G lost (λ marks. Some t ≡ first_below (incomplete G d marks) (tuples_of G))
    searching_found e marks w =
        sym
        (first_is (incomplete G d marks) (tuples_of G) t h (not-false _ (sym (whole marks w) ∙ not-true _ e)) (s.before marks w))

  pub searching_all : tuples_of G ≤ t → ForMarks G lost (λ marks. None ≡ first_below (incomplete G d marks) (tuples_of G))
  searching_all h marks w =
      sym (first_none (incomplete G d marks) (tuples_of G) (λ i l. s.before marks w i (omega arith)))

-- ---- the bytes

pub record Restoring (G : Geometry) (d : List ℕ) (lost : List Bool) (a₀ : List ℕ) (flags : List Bool) (log a : List ℕ) (count t : ℕ) : Type 0 where
  pub rooms : Rooms G flags log
  pub most : t ≤ tuples_of G
  pub few : count ≤ t * 1690
  pub array : length a ≡ bytes_of G
  pub done : ForMarks G lost (λ marks. (count ≡ restored_below G d marks t) × (a ≡ rebuilt_below G d marks a₀ t))

pub restoring_none :
    (G : Geometry) (d : List ℕ) (lost : List Bool) (a : List ℕ) (flags : List Bool) (log : List ℕ) → length a ≡ bytes_of G
    → Rooms G flags log → Restoring G d lost a flags log a 0 0
unfolding restored_below rebuilt_below
restoring_none G d lost a flags log e m =
    record { rooms = m; most = omega arith; few = omega arith; array = e; done = λ marks w. (refl, refl) }

module _ {G : Geometry} {d : List ℕ} (L : Laid G d) {lost : List Bool} (long : length lost ≡ disks_of G) {a₀ : List ℕ}
    {flags : List Bool} {log a : List ℕ} {n t : ℕ} (s : Restoring G d lost a₀ flags log a n t) where
  module _ (h : t < tuples_of G) (f : List Bool) (l : List ℕ) (count : ℕ) (complete : Bool)
      (is : state f l count ≡ reached_state G d lost t flags log) (all : complete ≡ reached_all G d lost t flags log) where
    passed_log : Ended G d (marks_of lost) t (state f l count) complete
    passed_log = log_ended G d L lost long t h s.rooms f l count complete is all

    pub restoring_room : count ≤ length l
    restoring_room = passed_log.room

    pub restoring_log : LogIn G (take count l)
    restoring_log = ended_log passed_log

    pub restoring_few : length l ≡ length log → count ≤ 1690
    restoring_few q = omega (arith, restoring_room, q, s.rooms.entries, cells_few G L.sound)

    pub restoring_more :
        length f ≡ length flags → length l ≡ length log → (b : List ℕ) → length b ≡ length a
        → b ≡ replayed G d t (log_steps G t (take count l) (length (take count l))) a → Restoring G d lost a₀ f l b (n + count) (t + 1)
    unfolding restored_below rebuilt_below
    restoring_more p q b k e = record {
      rooms = rooms_kept s.rooms f l p q;
      most = omega arith;
      few = omega (arith, s.few, restoring_few q);
      array = k ∙ s.array;
      done =
          λ marks w.
          let z = ended G d L lost long t h s.rooms f l count complete is all marks w in
          let y = s.done marks w in
          subst⁻¹ (λ (i : ℕ). (n + count ≡ restored_below G d marks i) × (b ≡ rebuilt_below G d marks a₀ i)) (add-one t) (
            ap₂ (λ (i j : ℕ). i + j) y.0 z.count,
            e ∙ ap₂ (λ (i : List Step) (x : List ℕ). replayed G d t i x) (steps_front G t l count restoring_room ∙ z.steps) y.1,
          );
    }

  pub restoring_all :
      tuples_of G ≤ t → ForMarks G lost (λ marks. (n ≡ restored_of G d marks) × (a ≡ rebuilt_of G d marks a₀))
  unfolding restored_of rebuilt_of
  restoring_all h marks w =
      let e : t ≡ tuples_of G = omega (arith, s.most) in
      subst (λ (i : ℕ). (n ≡ restored_below G d marks i) × (a ≡ rebuilt_below G d marks a₀ i)) e (s.done marks w)
