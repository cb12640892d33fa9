-- Demand 1 of each call in Rattle, from its own contract. Assumes nothing.
use mathlib.Core.Path.{refl, ◌∙◌}
use lib.ListN.{length}
use Rattle.refusal.specs.Refusal.{answer, verdict, outcome_of}
use Rattle.refusal.proofs.Same.{same_answer}
use Rattle.checking.specs.Rules.{design_rules}
use Rattle.checking.specs.Reasons.{design_rows}
use Rattle.checking.proofs.Reasons.{design_exact}
use Rattle.checking.proofs.TwoResults as checking
use Rattle.held.specs.Held.{held_design, fill_rules}
use Rattle.held.specs.Reasons.{fill_rows}
use Rattle.held.proofs.Reasons.{fill_exact}
use Rattle.held.proofs.TwoResults as held
use Rattle.sizes.specs.Sizes.{sizes_rules, sizes_of}
use Rattle.sizes.specs.Reasons.{sizes_rows}
use Rattle.sizes.proofs.Reasons.{sizes_exact}
use Rattle.sizes.proofs.TwoResults as sizes
use Rattle.layout.specs.Places.{four_of, role_at}
use Rattle.address.specs.Address.{map_rules, role_rules}
use Rattle.address.specs.Reasons.{map_rows, role_rows}
use Rattle.address.proofs.Reasons.{map_exact, role_exact}
use Rattle.address.proofs.TwoResults as address
use Rattle.array.specs.Array.{formatted_array, formatted_marks}
use Rattle.array.specs.Rules.{array_rules}
use Rattle.array.specs.Reasons.{array_rows}
use Rattle.array.proofs.Reasons.{array_exact}
use Rattle.array.proofs.TwoResults as arrays
use Rattle.reading.specs.Reading.{read_of, read_rules}
use Rattle.reading.specs.Reasons.{read_rows}
use Rattle.reading.proofs.Reasons.{read_exact}
use Rattle.reading.proofs.TwoResults as reading
use Rattle.fourfold.specs.Writing.{write_of}
use Rattle.writing.specs.Writing.{write_rules}
use Rattle.writing.specs.Reasons.{write_rows}
use Rattle.writing.proofs.Reasons.{write_exact}
use Rattle.writing.proofs.TwoResults as writing
use Rattle.finding.specs.Bad.{audit_of}
use Rattle.auditing.specs.Auditing.{audit_rules}
use Rattle.auditing.specs.Reasons.{audit_rows}
use Rattle.auditing.proofs.Reasons.{audit_exact}
use Rattle.auditing.proofs.TwoResults as auditing
use Rattle.rebuilding.specs.Rebuild.{restored_of, rebuilt_of, rebuild_rules}
use Rattle.rebuilding.specs.Reasons.{rebuild_rows}
use Rattle.rebuilding.proofs.Reasons.{rebuild_exact}
use Rattle.rebuilding.proofs.TwoResults as rebuilding
use Rattle.planning.specs.Plan.{triples_of, planned, plan_rules}
use Rattle.planning.specs.Reasons.{plan_rows}
use Rattle.planning.proofs.Reasons.{plan_exact}
use Rattle.planning.proofs.TwoResults as planning
use Rattle.lostset.proofs.Contracts as lostset
use Rattle.calls.specs.Refuses.{both}
use Rattle.calls.specs.Calls.{EveryCall}
use Rattle.calls.proofs.Settle.{settle, settle_alone, settle_free, pair, kept_both}

pub every_call : EveryCall
every_call =
    record {
      fill =
          λ κs v design.
          let o = verdict (fill_rules v (length design.now)) in
          settle _ (fill_rows v (length design.now)) outcome_of (λ x. x.now) design (held.Allowed κs v design) o (held_design v) refl
          (fill_exact v (length design.now) tt) (held.some_result κs v design) (λ r l a. a.0) (λ r l a. a.1) same_answer;
      check =
          λ κs v k design.
          settle_alone _ (design_rows v k design.now) outcome_of (checking.Allowed κs v k design)
          (verdict (design_rules v k design.now)) refl (design_exact v k design.now) (checking.some_result κs v k design)
          (λ r a. a) same_answer;
      check_sizes =
          λ κs G design.
          settle_alone _ (sizes_rows G design.now) outcome_of (sizes.CheckAllowed κs G design)
          (verdict (sizes_rules G design.now)) refl (sizes_exact G design.now tt) (sizes.check_some_result κs G design)
          (λ r a. a) same_answer;
      sizes_of =
          λ κs G design.
          settle_alone _ (sizes_rows G design.now) outcome_of (sizes.AnswerAllowed κs G design)
          (answer (sizes_rules G design.now) (sizes_of G)) refl (sizes_exact G design.now (sizes_of G))
          (sizes.sizes_some_result κs G design) (λ r a. a) same_answer;
      map =
          λ κs G design n.
          let four = four_of G design.now n.0 in
          settle_alone _ (map_rows G design.now n.0) outcome_of (address.MapAllowed κs G design n)
          (answer (map_rules G design.now n.0) four) refl (map_exact G design.now n.0 four)
          (address.map_some_result κs G design n) (λ r a. a) same_answer;
      role =
          λ κs G design disk unit.
          let role = role_at G design.now disk.0 unit.0 in
          settle_alone _ (role_rows G design.now disk.0 unit.0) outcome_of (address.RoleAllowed κs G design disk unit)
          (answer (role_rules G design.now disk.0 unit.0) role) refl
          (role_exact G design.now disk.0 unit.0 role) (address.role_some_result κs G design disk unit) (λ r a. a)
          same_answer;
      check_array =
          λ κs G design bytes marks.
          settle_alone _ (array_rows G design.now bytes marks.now) outcome_of (arrays.CheckAllowed κs G design bytes marks)
          (verdict (array_rules G design.now bytes marks.now)) refl (array_exact G design.now bytes marks.now tt)
          (arrays.check_some_result κs G design bytes marks) (λ r a. a) same_answer;
      format =
          λ κs G design array marks.
          let o = verdict (array_rules G design.now (length array.now) marks.now) in
          let w = arrays.format_some_result κs G design array marks in
          settle _ (array_rows G design.now (length array.now) marks.now) outcome_of both (array, marks)
          (λ r l. arrays.FormatAllowed κs G design array marks r l.0 l.1) o (formatted_array G, formatted_marks G) refl
          (array_exact G design.now (length array.now) marks.now tt) (w.0, (w.1, w.2), w.3) (λ r l a. a.0)
          (λ r l a. pair a.1 a.2 ∙ kept_both o (formatted_array G) array.now (formatted_marks G) marks.now) same_answer;
      read =
          λ κs G design array marks n offset out.
          let o = verdict (read_rules G design.now (length array.now) marks.now n.0 offset (length out.now)) in
          settle _ (read_rows G design.now (length array.now) marks.now n.0 offset (length out.now)) outcome_of
          (λ x. x.now) out (reading.Allowed κs G design array marks n offset out) o
          (read_of G design.now array.now n.0 offset (length out.now)) refl
          (read_exact G design.now (length array.now) marks.now n.0 offset (length out.now) tt)
          (reading.some_result κs G design array marks n offset out) (λ r l a. a.0) (λ r l a. a.1) same_answer;
      write =
          λ κs G design array marks n offset new.
          let o = verdict (write_rules G design.now (length array.now) marks.now n.0 offset (length new.now)) in
          settle _ (write_rows G design.now (length array.now) marks.now n.0 offset (length new.now)) outcome_of
          (λ x. x.now) array (writing.Allowed κs G design array marks n offset new) o
          (write_of G design.now array.now n.0 offset new.now) refl
          (write_exact G design.now (length array.now) marks.now n.0 offset (length new.now) tt)
          (writing.some_result κs G design array marks n offset new) (λ r l a. a.0) (λ r l a. a.1) same_answer;
      audit =
          λ κs G design array.
          let found = audit_of G design.now array.now in
          settle_alone _ (audit_rows G design.now (length array.now)) outcome_of (auditing.Allowed κs G design array)
          (answer (audit_rules G design.now (length array.now)) found) refl
          (audit_exact G design.now (length array.now) found) (auditing.some_result κs G design array) (λ r a. a)
          same_answer;
      rebuild =
          λ κs G design array marks.
          let count = restored_of G design.now marks.now in
          let bytes = rebuilt_of G design.now marks.now array.now in
          let o = answer (rebuild_rules G design.now (length array.now) marks.now) count in
          let w = rebuilding.some_result κs G design array marks in
          settle _ (rebuild_rows G design.now (length array.now) marks.now) outcome_of both (array, marks)
          (λ r l. rebuilding.Allowed κs G design array marks r l.0 l.1) o (bytes, formatted_marks G) refl
          (rebuild_exact G design.now (length array.now) marks.now count) (w.0, (w.1, w.2), w.3) (λ r l a. a.0)
          (λ r l a. pair a.1 a.2 ∙ kept_both o bytes array.now (formatted_marks G) marks.now) same_answer;
      plan =
          λ κs G design disk list.
          let o = answer (plan_rules G design.now disk.0 (length list.now)) (triples_of G) in
          settle _ (plan_rows G design.now disk.0 (length list.now)) outcome_of (λ x. x.now) list
          (planning.Allowed κs G design disk list) o (planned G design.now disk.0 list.now) refl
          (plan_exact G design.now disk.0 (length list.now) (triples_of G)) (planning.some_result κs G design disk list)
          (λ r l a. a.0) (λ r l a. a.1) same_answer;
      none = λ κs. settle_free (lostset.NoneAllowed κs) (lostset.none_some_result κs) (lostset.none_two_results κs);
      mark =
          λ κs s disk.
          settle_free (lostset.MarkAllowed κs s disk) (lostset.mark_some_result κs s disk) (lostset.mark_two_results κs s disk);
      clear =
          λ κs s disk.
          settle_free (lostset.ClearAllowed κs s disk) (lostset.clear_some_result κs s disk) (lostset.clear_two_results κs s disk);
      has =
          λ κs s disk.
          settle_free (lostset.HasAllowed κs s disk) (lostset.has_some_result κs s disk) (lostset.has_two_results κs s disk);
      from_marks =
          λ κs marks.
          settle_free (lostset.FromAllowed κs marks) (lostset.from_some_result κs marks) (lostset.from_two_results κs marks);
    }
