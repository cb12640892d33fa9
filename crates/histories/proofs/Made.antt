-- The last format and the accepted writes after it, with nothing lost, are accepted and make the ideal array. Assumes nothing.
use Prim.Native.Nat.{ℕ, ◌+◌, ◌-◌, ◌<◌}
use mathlib.Core.Path.{◌≡◌, refl, sym, ap, subst, ◌∙◌}
use mathlib.Core.Bool.{false, cond}
use mathlib.Core.List.{List, [], ◌∷◌, ◌++◌}
use native.Mathlib.Omega.{arith}
use lib.ListN.{get_or, length, replicate}
use lib.Seq.{ext_get_or}
use borrow.Author.Tests.{ne_eqb, le-ltb}
use denote.Ref.{at_last}
use Rattle.refusal.specs.Refusal.{Rule, rule, accepted, verdict}
use Rattle.refusal.proofs.Answer.{next, skip}
use Rattle.geometry.specs.declared.Geometry.{Geometry}
use Rattle.geometry.specs.declared.UserUnit.{UserUnit}
use Rattle.geometry.specs.Geometry.{disks_of}
use Rattle.layout.specs.declared.Place.{Place}
use Rattle.layout.specs.Places.{four_of}
use Rattle.layout.specs.Marks.{lost}
use Rattle.leaves.proofs.Runs.{at_zeros}
use Rattle.array.specs.Array.{formatted_marks}
use Rattle.array.specs.Rules.{array_rules, range_rules}
use Rattle.array.proofs.Range.{range_fine}
use Rattle.array.proofs.Kept.{kept_new}
use Rattle.fourfold.specs.Writing.{write_of}
use Rattle.writing.specs.Writing.{four_lost, first_lost, write_rules}
use Rattle.histories.specs.Histories.{State, Event, formatted, was_read, written, audited, rebuilt, asked, disk_of}
use Rattle.histories.specs.Histories as Histories
use Rattle.histories.specs.Histories.{FormatStep, WriteStep, Step, History, start, more}
use Rattle.histories.specs.Ideal.{last_written, holds}
use Rattle.histories.specs.Made.{format_and_writes, Made}
use Rattle.histories.specs.Theorems.{Keeps, TheIdealIsWhatFormatAndWritesMake}
use Rattle.histories.specs.Theorems.{ARebuildLeavesWhatFormatAndWritesMake}
use Rattle.histories.proofs.One.{the_ideal_is_one}
use Rattle.histories.proofs.Refused.{state}
use Rattle.histories.proofs.Start.{format_leaves}
use Rattle.histories.proofs.Written.{write_through, write_fine}
use Rattle.histories.proofs.Losses.{ideal_on}
use Rattle.histories.proofs.Rebuilds.{still_fine}
use Rattle.histories.proofs.Demand.{demand_2}
use Rattle.histories.proofs.Kept.{sizes_passed, every_history_keeps_its_ideal}
use Rattle.std.specs.Prelude.{Ok, Err}

-- the events that are left out write nothing that lasts
last_same : (es : List Event) (m j : ℕ) → last_written (format_and_writes es) m j ≡ last_written es m j
last_same [] m j = refl
last_same (formatted (Ok tt) ∷ es) m j = refl
last_same (formatted (Err x) ∷ es) m j = last_same es m j
last_same (was_read n o bytes r ∷ es) m j = last_same es m j
last_same (written n o bytes (Ok tt) ∷ es) m j =
    ap (cond (holds n.0 o (length bytes) m j) (get_or bytes (j - o) 0)) (last_same es m j)
last_same (written n o bytes (Err x) ∷ es) m j = last_same es m j
last_same (audited r ∷ es) m j = last_same es m j
last_same (rebuilt r ∷ es) m j = last_same es m j
last_same (asked ∷ es) m j = last_same es m j
last_same (Histories.lost ∷ es) m j = last_same es m j

module _ (G : Geometry) (d : List ℕ) where
  -- they make a history at whose end nothing is marked
  record Again (es : List Event) : Type 0 where
    end : State
    history : History G d es end
    marks : end.marks ≡ replicate (disks_of G) 0

  format_again : (s t : State) → FormatStep G d s (Ok tt) t → Again (formatted (Ok tt) ∷ [])
  unfolding formatted_marks
  format_again s t f =
      record { end = t; history = start s t f; marks = ap (λ (x : State). x.marks) (format_leaves G d s t f) }

  -- ---- a write that was accepted is accepted where nothing is marked
  module _ (fs : List Event) (w : Again fs) (s t : State) (n : UserUnit) (o : ℕ) (bytes : List ℕ) (p : WriteStep G d s n o bytes (Ok tt) t) where
    there : (x : Place) → lost G w.end.marks x ≡ false
    unfolding lost
    there x =
        ne_eqb (get_or w.end.marks x.disk.0 0) 1
        (λ (e : get_or w.end.marks x.disk.0 0 ≡ 1).
        omega (arith, ap (λ (y : List ℕ). get_or y x.disk.0 0) w.marks, at_zeros (disks_of G) x.disk.0))

    abbrev twelve : Rule
    twelve = rule 12 (four_lost G w.end.marks (four_of G d n.0)) (first_lost G w.end.marks (four_of G d n.0))

    none_lost : four_lost G w.end.marks (four_of G d n.0) ≡ false
    unfolding four_lost
    none_lost =
        let f = four_of G d n.0 in rw (there f.user, there f.outer, there f.inner, there f.both)

    in_range : verdict (range_rules G n.0 o (length bytes)) ≡ accepted tt
    in_range =
        let T = write_through G d s.marks n.0 o (length bytes) s.array (write_fine G d s t n o bytes p) in
        range_fine G n.0 o (length bytes) T.range.user (le-ltb G.u (o + length bytes) T.range.inside)

    fine_again : verdict (write_rules G d (length w.end.array) w.end.marks n.0 o (length bytes)) ≡ accepted tt
    unfolding write_rules
    fine_again =
        let k = every_history_keeps_its_ideal G d fs w.end w.history in
        let z = sizes_passed G d fs w.end w.history in
        skip (array_rules G d (length w.end.array) w.end.marks) (range_rules G n.0 o (length bytes) ++ (twelve ∷ [])) tt
        (still_fine G d fs w.end w.end k z.0 z.1)
        ∙ skip (range_rules G n.0 o (length bytes)) (twelve ∷ []) tt in_range ∙ next twelve [] tt none_lost

    abbrev new : List ℕ
    new = write_of G p.design.now w.end.array n.0 o p.new.now

    write_again_step : WriteStep G d w.end n o bytes (Ok tt) (state new w.end.marks)
    write_again_step =
        let fine : verdict
        (write_rules G p.design.now (length w.end.array) w.end.marks n.0 o (length p.new.now))
        ≡ accepted tt = rw (p.is_design, p.are_bytes) fine_again in
        record {
          lifetimes = p.lifetimes;
          design = p.design;
          array = at_last p.array w.end.array;
          marks = record p.marks { now = w.end.marks };
          new = p.new;
          array_after = at_last p.array new;
          is_design = p.is_design;
          is_array = refl;
          are_marks = refl;
          are_bytes = p.are_bytes;
          is_array_after = refl;
          marks_stay = refl;
          meets = (sym fine, kept_new _ tt new w.end.array fine);
        }

    write_again : Again (written n o bytes (Ok tt) ∷ fs)
    write_again =
        record {
          end = state new w.end.marks;
          history = more fs w.end w.history (written n o bytes (Ok tt)) (state new w.end.marks) write_again_step;
          marks = w.marks;
        }

  again_step : (es : List Event) (s t : State) (e : Event) → Step G d s e t → Again (format_and_writes es) → Again (format_and_writes (e ∷ es))
  again_step es s t (formatted (Ok tt)) p w = format_again s t p
  again_step es s t (formatted (Err x)) p w = w
  again_step es s t (was_read n o bytes r) p w = w
  again_step es s t (written n o bytes (Ok tt)) p w = write_again (format_and_writes es) w s t n o bytes p
  again_step es s t (written n o bytes (Err x)) p w = w
  again_step es s t (audited r) p w = w
  again_step es s t (rebuilt r) p w = w
  again_step es s t asked p w = w
  again_step es s t Histories.lost p w = w

  again : (es : List Event) (t : State) → History G d es t → Again (format_and_writes es)
  again _ _ (start s t f) = format_again s t f
  again _ _ (more es s h e t p) = again_step es s t e p (again es s h)

  -- where nothing is marked the array is the ideal
  pub nothing_marked : (t : State) (es : List Event) (k : Keeps G d es t) → t.marks ≡ replicate (disks_of G) 0 → t.array ≡ k.ideal
  nothing_marked t es k z =
      ext_get_or 0 t.array k.ideal (k.array_long ∙ sym k.is_ideal.long)
      (λ (p : ℕ) (l : p < length t.array).
      k.present p (omega (arith, k.array_long))
      (ap (λ (y : List ℕ). get_or y (disk_of G p) 0) z ∙ at_zeros (disks_of G) (disk_of G p)))

pub the_ideal_is_what_format_and_writes_make : TheIdealIsWhatFormatAndWritesMake
the_ideal_is_what_format_and_writes_make G d es t h a I =
    let w = again G d es t h in
    let fs : List Event = format_and_writes es in
    let k = every_history_keeps_its_ideal G d fs w.end w.history in
    record {
      made = w.end;
      history = w.history;
      array =
          nothing_marked G d w.end fs k w.marks
          ∙ the_ideal_is_one G d k.laid es k.ideal a
          (ideal_on G d fs es (λ m j. sym (last_same es m j)) k.ideal k.is_ideal) I;
      marks = w.marks;
    }

pub a_rebuild_leaves_what_format_and_writes_make : ARebuildLeavesWhatFormatAndWritesMake
a_rebuild_leaves_what_format_and_writes_make G d es t h r w b =
    let k = demand_2 G d es t h in
    let e = k.rebuilds r w b in
    (e.0, subst (Made G d es) (sym e.1) (the_ideal_is_what_format_and_writes_make G d es t h k.ideal k.is_ideal))
