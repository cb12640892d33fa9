-- Demand 2: what is so after every history. Assumes nothing.
use Prim.Native.Nat.{ℕ, ◌+◌, ◌*◌, ◌<◌}
use mathlib.Core.Path.{◌≡◌, refl, sym, ap, subst, ◌∙◌}
use mathlib.Core.List.{List}
use native.Mathlib.Nat.{add_assoc}
use native.Mathlib.Omega.{arith}
use lib.ListN.{get_or, length, replicate}
use denote.Ref.{MutBor, at_last}
use Rattle.refusal.specs.Refusal.{accepted, verdict}
use Rattle.geometry.specs.declared.Geometry.{Geometry}
use Rattle.geometry.specs.declared.UserUnit.{UserUnit}
use Rattle.geometry.specs.Geometry.{disks_of, units_of}
use Rattle.cells.specs.Roles.{user_cell}
use Rattle.leaves.proofs.Runs.{at_run, length_run}
use Rattle.array.specs.Array.{cell_start}
use Rattle.reading.specs.Reading.{read_of, read_rules}
use Rattle.reading.proofs.TwoResults.{read_accepted}
use Rattle.fourfold.proofs.Starts.{user_in, range_in}
use Rattle.rebuilding.proofs.TwoResults.{some_result}
use Rattle.histories.specs.Histories.{State, Event, rebuilt, marked_disks, ReadStep, Step, History, start, more}
use Rattle.histories.specs.Ideal.{last_written}
use Rattle.histories.specs.Theorems.{Keeps, AHistoryWithoutItsNewestEventIsOne, Demand2}
use Rattle.histories.proofs.One.{the_ideal_is_one}
use Rattle.histories.proofs.Refused.{state, refused_stays}
use Rattle.histories.proofs.Written.{Through, read_through, range_of_ideal, same_read}
use Rattle.histories.proofs.Rebuilds.{rebuild_leaves, rebuild_answers}
use Rattle.histories.proofs.Kept.{sizes_passed, every_history_keeps_its_ideal}
use Rattle.std.specs.Prelude.{Result, Ok}
use Rattle.refusal.specs.declared.Refusal.{Refusal}

pub a_history_without_its_newest_event_is_one : AHistoryWithoutItsNewestEventIsOne
a_history_without_its_newest_event_is_one G d e f es _ (more _ s h _ t p) = (s, h, p)

-- ---- an accepted read
module _ (G : Geometry) (d : List ℕ) (es : List Event) (t : State) (k : Keeps G d es t)
    (n : UserUnit) (o : ℕ) (bytes : List ℕ) (w : State) (r : ReadStep G d t n o bytes (Ok tt) w) where
  read_fine : verdict (read_rules G d (length t.array) t.marks n.0 o (length r.out.now)) ≡ accepted tt
  read_fine = rw (r.is_design, r.is_array, r.are_marks) at (sym r.meets.0)

  through : Through G d t.marks n.0 o (length r.out.now) t.array
  through = read_through G d t.marks n.0 o (length r.out.now) t.array read_fine

  reads_ideal : bytes ≡ read_of G d k.ideal n.0 o (length r.out.now)
  reads_ideal =
      sym r.are_bytes
      ∙ rw (r.is_design, r.is_array) at
      (read_accepted r.lifetimes G r.design r.array r.marks n o r.out r.out_after r.meets)
      ∙ same_read G d t.marks n.0 o (length r.out.now) t.array k.ideal k.present k.marks_low through
      k.is_ideal.long

  read_long : length bytes ≡ length r.out.now
  unfolding read_of
  read_long =
      let R =
      range_of_ideal G d t.marks n.0 o (length r.out.now) t.array k.ideal k.present k.marks_low through
      k.is_ideal.long in
      ap length reads_ideal
      ∙ length_run k.ideal (cell_start G d (user_cell G n.0) + o) (length r.out.now) (range_in R (user_cell G n.0) (user_in R))

  pub reads_last_written : (j : ℕ) → j < length bytes → get_or bytes j 0 ≡ last_written es n.0 (o + j)
  unfolding read_of
  reads_last_written j l =
      ap (λ (x : List ℕ). get_or x j 0) reads_ideal
      ∙ at_run k.ideal (cell_start G d (user_cell G n.0) + o) (length r.out.now) j (omega (arith, read_long))
      ∙ ap (λ (x : ℕ). get_or k.ideal x 0) (add_assoc (cell_start G d (user_cell G n.0)) o j)
      ∙ k.is_ideal.user n.0 through.range.user (o + j) (omega (arith, read_long, through.range.inside))

-- ---- a rebuild
module _ (G : Geometry) (d : List ℕ) where
  -- the references of the first format serve
  pub can_rebuild : (es : List Event) (s t : State) → History G d es s → (r : Result ℕ Refusal) × (w : State) × Step G d t (rebuilt r) w
  can_rebuild _ _ t (start s u f) =
      let a : MutBor (List ℕ) = at_last f.array t.array in
      let m : MutBor (List ℕ) = at_last f.marks t.marks in
      let o = some_result f.lifetimes G f.design a m in (
        o.0,
        state o.1.now o.2.now,
        record {
          lifetimes = f.lifetimes;
          design = f.design;
          array = a;
          marks = m;
          array_after = o.1;
          marks_after = o.2;
          is_design = f.is_design;
          is_array = refl;
          are_marks = refl;
          is_array_after = refl;
          are_marks_after = refl;
          meets = o.3;
        },
      )
  can_rebuild _ _ t (more es s h e u p) = can_rebuild es s t h

  module _ (es : List Event) (t : State) (h : History G d es t) (k : Keeps G d es t) where
    restored :
        (c : ℕ) (r : Result ℕ Refusal) (w : State) → r ≡ Ok c → Step G d t (rebuilt r) w →
        w ≡ state k.ideal (replicate (disks_of G) 0)
    restored c r w e b =
        rebuild_leaves G d es t w k c (subst (λ (x : Result ℕ Refusal). Step G d t (rebuilt x) w) e b)

    rebuilds :
        (r : Result ℕ Refusal) (w : State) → Step G d t (rebuilt r) w →
        (r ≡ Ok (marked_disks G t.marks * units_of G))
        × (w.array ≡ k.ideal) × (w.marks ≡ replicate (disks_of G) 0)
    rebuilds r w b =
        let z = sizes_passed G d es t h in
        let e = rebuild_answers G d es t w k z.0 z.1 r b in
        let q = restored (marked_disks G t.marks * units_of G) r w e b in
        (e, ap (λ (x : State). x.array) q, ap (λ (x : State). x.marks) q)

pub demand_2 : Demand2
demand_2 G d es t h =
    let k = every_history_keeps_its_ideal G d es t h in
    record {
      ideal = k.ideal;
      is_ideal = k.is_ideal;
      only = λ a p. the_ideal_is_one G d k.laid es a k.ideal p k.is_ideal;
      present = k.present;
      reads = λ n o bytes w r. reads_last_written G d es t k n o bytes w r;
      refusals = λ e w p q. refused_stays G d t w e p q;
      rebuilds = rebuilds G d es t h k;
      can_rebuild = can_rebuild G d es t t h;
    }
