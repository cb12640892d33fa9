-- Steps from what the calls' definitions give: any values are held by some references. Assumes nothing.
use Prim.Native.Nat.{ℕ, ◌<◌}
use mathlib.Core.Path.{◌≡◌, refl}
use mathlib.Core.Bool.{Bool, true, false, not, ◌||◌}
use mathlib.Core.Logic.{inl, inr, ⊎_elim}
use mathlib.Core.List.{List, []}
use lib.Dec.{eqb, leb}
use lib.ListN.{get_or, length}
use borrow.Author.Tests.{eqb-true, leb-true, not-false}
use contract.Lifetimes.{Lfts}
use denote.Ref.{Bor, MutBor}
use Rattle.counting.specs.Counting.{any_below}
use Rattle.counting.proofs.Bools.{or_one}
use Rattle.counting.proofs.Laws.{any_none}
use Rattle.refusal.specs.Refusal.{Outcome, answer, verdict, kept, outcome_of}
use Rattle.geometry.specs.declared.Geometry.{Geometry}
use Rattle.geometry.specs.declared.UserUnit.{UserUnit}
use Rattle.geometry.specs.Geometry.{disks_of, bytes_of}
use Rattle.array.specs.Array.{formatted_array, formatted_marks}
use Rattle.array.specs.Rules.{array_rules}
use Rattle.reading.specs.Reading.{read_of, read_rules}
use Rattle.fourfold.specs.Writing.{write_of}
use Rattle.writing.specs.Writing.{write_rules}
use Rattle.finding.specs.Bad.{audit_of}
use Rattle.auditing.specs.Auditing.{audit_rules}
use Rattle.rebuilding.specs.Rebuild.{rebuilt_of, restored_of, rebuild_rules}
use Rattle.histories.specs.Histories.{State, disk_of, marked_disks, Loss, Handed, BothStep, FormatStep, ReadStep, WriteStep, AuditStep, RebuildStep}
use Rattle.array.proofs.format.Reads as format
use Rattle.rebuilding.proofs.rebuild.Reads as rebuild
use Rattle.finding.specs.declared.Found.{Found}
use Rattle.std.specs.Prelude.{Result}
use Rattle.refusal.specs.declared.Refusal.{Refusal}

abbrev ref : List ℕ → Bor (List ℕ)
ref xs = record { ref_ptr = (0, 0); now = xs }

abbrev mut_ref : List ℕ → MutBor (List ℕ)
mut_ref xs = record { ref_ptr = (0, 0); ghost_name = 0; now = xs }

module _ (G : Geometry) (d : List ℕ) (s t : State) where
  both_step :
      {R : Type 0} (Post : Lfts 3 → Handed → R → Handed → Type 0) (r : R)
      → Post ([], ([], ([], tt))) (G, (ref d, (mut_ref s.array, (mut_ref s.marks, tt)))) r
      (G, (ref d, (mut_ref t.array, (mut_ref t.marks, tt))))
      → BothStep Post G d s r t
  both_step Post r h =
      record {
        lifetimes = ([], ([], ([], tt)));
        design = ref d;
        array = mut_ref s.array;
        marks = mut_ref s.marks;
        array_after = mut_ref t.array;
        marks_after = mut_ref t.marks;
        is_design = refl;
        is_array = refl;
        are_marks = refl;
        is_array_after = refl;
        are_marks_after = refl;
        meets = h;
      }

  abbrev format_verdict : Outcome (Unit {0})
  format_verdict = verdict (array_rules G d (length s.array) s.marks)

  pub format_step :
      (r : Result (Unit {0}) Refusal) → outcome_of r ≡ format_verdict → t.array ≡ kept format_verdict (formatted_array G) s.array
      → t.marks ≡ kept format_verdict (formatted_marks G) s.marks → FormatStep G d s r t
  format_step r e a m = both_step format.Post r (e, a, m)

  module _ (n : UserUnit) (o : ℕ) (bytes : List ℕ) (r : Result (Unit {0}) Refusal) where
    pub write_step :
        outcome_of r ≡ verdict (write_rules G d (length s.array) s.marks n.0 o (length bytes))
        → t.array
        ≡ kept (verdict (write_rules G d (length s.array) s.marks n.0 o (length bytes)))
        (write_of G d s.array n.0 o bytes) s.array
        → t.marks ≡ s.marks → WriteStep G d s n o bytes r t
    write_step e a m =
        record {
          lifetimes = ([], ([], ([], ([], tt))));
          design = ref d;
          array = mut_ref s.array;
          marks = ref s.marks;
          new = ref bytes;
          array_after = mut_ref t.array;
          is_design = refl;
          is_array = refl;
          are_marks = refl;
          are_bytes = refl;
          is_array_after = refl;
          marks_stay = m;
          meets = (e, a);
        }

    pub read_step :
        (out : List ℕ) → outcome_of r ≡ verdict (read_rules G d (length s.array) s.marks n.0 o (length out))
        → bytes
        ≡ kept (verdict (read_rules G d (length s.array) s.marks n.0 o (length out)))
        (read_of G d s.array n.0 o (length out)) out
        → ReadStep G d s n o bytes r s
    read_step out e b =
        record {
          lifetimes = ([], ([], ([], ([], tt))));
          design = ref d;
          array = ref s.array;
          marks = ref s.marks;
          out = mut_ref out;
          out_after = mut_ref bytes;
          is_design = refl;
          is_array = refl;
          are_marks = refl;
          are_bytes = refl;
          stays = refl;
          meets = (e, b);
        }

  pub audit_step :
      (r : Result Found Refusal) → outcome_of r ≡ answer (audit_rules G d (length s.array)) (audit_of G d s.array) → AuditStep G d s r s
  audit_step r e =
      record {
        lifetimes = ([], ([], tt));
        design = ref d;
        array = ref s.array;
        is_design = refl;
        is_array = refl;
        stays = refl;
        meets = e;
      }

  abbrev rebuild_answer : Outcome ℕ
  rebuild_answer = answer (rebuild_rules G d (length s.array) s.marks) (restored_of G d s.marks)

  pub rebuild_step :
      (r : Result ℕ Refusal) → outcome_of r ≡ rebuild_answer
      → t.array ≡ kept rebuild_answer (rebuilt_of G d s.marks s.array) s.array
      → t.marks ≡ kept rebuild_answer (formatted_marks G) s.marks → RebuildStep G d s r t
  rebuild_step r e a m = both_step rebuild.Post r (e, a, m)

  -- ---- a loss, by tests
  abbrev pub mark_fits : ℕ → Bool
  mark_fits x = eqb (get_or t.marks x 0) (get_or s.marks x 0) || eqb (get_or t.marks x 0) 1

  abbrev pub byte_fits : ℕ → Bool
  byte_fits p = eqb (get_or t.marks (disk_of G p) 0) 1 || eqb (get_or t.array p 0) (get_or s.array p 0)

  pub loss_step :
      length t.array ≡ length s.array → length t.marks ≡ length s.marks
      → any_below (λ (x : ℕ). not (mark_fits x)) (disks_of G) ≡ false → any_below (λ (p : ℕ). not (byte_fits p)) (bytes_of G) ≡ false
      → leb (marked_disks G t.marks) 3 ≡ true → Loss G s t
  loss_step la lm marks bytes three =
      record {
        array_stays_long = la;
        marks_stay_long = lm;
        mark =
            λ (x : ℕ) (l : x < disks_of G).
            ⊎_elim (λ e. inl (eqb-true (get_or t.marks x 0) (get_or s.marks x 0) e)) (λ e. inr (eqb-true (get_or t.marks x 0) 1 e))
            (or_one (eqb (get_or t.marks x 0) (get_or s.marks x 0)) (eqb (get_or t.marks x 0) 1)
            (not-false (mark_fits x) (any_none (λ (x : ℕ). not (mark_fits x)) (disks_of G) marks x l)));
        byte =
            λ (p : ℕ) (l : p < bytes_of G) (n : get_or t.marks (disk_of G p) 0 ≡ 1 → ⊥).
            ⊎_elim (λ e. absurd (n (eqb-true (get_or t.marks (disk_of G p) 0) 1 e))) (λ e. eqb-true (get_or t.array p 0) (get_or s.array p 0) e)
            (or_one (eqb (get_or t.marks (disk_of G p) 0) 1) (eqb (get_or t.array p 0) (get_or s.array p 0))
            (not-false (byte_fits p) (any_none (λ (p : ℕ). not (byte_fits p)) (bytes_of G) bytes p l)));
        three = leb-true (marked_disks G t.marks) 3 three;
      }
