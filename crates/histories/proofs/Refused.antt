-- "A refusal alters no lent byte": after a refused call the state is as it was, by the call's own contract. Assumes nothing.
use Prim.Native.Nat.{ℕ}
use mathlib.Core.Path.{◌≡◌, refl, sym, ap₂, ◌∙◌}
use mathlib.Core.Bool.{true, false}
use mathlib.Core.List.{List}
use lib.ListN.{length}
use Rattle.counting.proofs.Bools.{bool_not_both}
use Rattle.refusal.specs.declared.Refusal.{Refusal}
use Rattle.refusal.specs.Refusal.{verdict, number_of, place_of}
use Rattle.geometry.specs.declared.Geometry.{Geometry}
use Rattle.geometry.specs.declared.UserUnit.{UserUnit}
use Rattle.array.specs.Array.{formatted_array, formatted_marks}
use Rattle.array.specs.Rules.{array_rules}
use Rattle.array.proofs.Kept.{kept_old}
use Rattle.writing.proofs.TwoResults.{write_refused}
use Rattle.rebuilding.proofs.TwoResults.{rebuild_refused}
use Rattle.histories.specs.Histories.{State, Event, formatted, was_read, written, audited, rebuilt, asked, lost, Step, refused_call}
use Rattle.histories.specs.Histories.{FormatStep, WriteStep, RebuildStep}
use Rattle.std.specs.Prelude.{Ok, Err}

abbrev pub state : (array marks : List ℕ) → State
state a m = record { array = a; marks = m }

pub same_state : (s t : State) → s.array ≡ t.array → s.marks ≡ t.marks → s ≡ t
same_state s t a m = ap₂ state a m

module _ (G : Geometry) (d : List ℕ) (s t : State) where
  format_refused : (x : Refusal) → FormatStep G d s (Err x) t → t ≡ s
  format_refused x f =
      let o = verdict (array_rules G f.design.now (length f.array.now) f.marks.now) in
      same_state t s
      (sym f.is_array_after ∙ f.meets.1
      ∙ sym (kept_old o (number_of x) (place_of x) (formatted_array G) f.array.now (sym f.meets.0)) ∙ f.is_array)
      (sym f.are_marks_after ∙ f.meets.2
      ∙ sym (kept_old o (number_of x) (place_of x) (formatted_marks G) f.marks.now (sym f.meets.0)) ∙ f.are_marks)

  wrote_nothing : (n : UserUnit) (o : ℕ) (bytes : List ℕ) (x : Refusal) → WriteStep G d s n o bytes (Err x) t → t ≡ s
  wrote_nothing n o bytes x w =
      same_state t s
      (sym w.is_array_after
      ∙ write_refused w.lifetimes G w.design w.array w.marks n o w.new x w.array_after w.meets ∙ w.is_array)
      w.marks_stay

  rebuilt_nothing : (x : Refusal) → RebuildStep G d s (Err x) t → t ≡ s
  rebuilt_nothing x b =
      let h = rebuild_refused b.lifetimes G b.design b.array b.marks x b.array_after b.marks_after b.meets in
      same_state t s (sym b.is_array_after ∙ h.0 ∙ b.is_array) (sym b.are_marks_after ∙ h.1 ∙ b.are_marks)

pub refused_stays : (G : Geometry) (d : List ℕ) (s t : State) (e : Event) → Step G d s e t → refused_call e ≡ true → t ≡ s
refused_stays G d s t (formatted (Ok tt)) h q = bool_not_both false q refl
refused_stays G d s t (formatted (Err x)) h q = format_refused G d s t x h
refused_stays G d s t (was_read n o bytes r) h q = h.stays
refused_stays G d s t (written n o bytes (Ok tt)) h q = bool_not_both false q refl
refused_stays G d s t (written n o bytes (Err x)) h q = wrote_nothing G d s t n o bytes x h
refused_stays G d s t (audited r) h q = h.stays
refused_stays G d s t (rebuilt (Ok c)) h q = bool_not_both false q refl
refused_stays G d s t (rebuilt (Err x)) h q = rebuilt_nothing G d s t x h
refused_stays G d s t asked h q = bool_not_both false q refl
refused_stays G d s t lost h q = bool_not_both false q refl
