-- Demand 1 of each function for C, from its own contract. Assumes nothing.
use mathlib.Core.Path.{refl, sym, ◌∙◌}
use lib.ListN.{length}
use Rattle.refusal.specs.Refusal.{answer, verdict}
use Rattle.checking.specs.Reasons.{design_rows}
use Rattle.held.specs.Held.{held_design, fill_rules}
use Rattle.held.specs.Reasons.{fill_rows}
use Rattle.sizes.specs.Reasons.{sizes_rows}
use Rattle.address.specs.Reasons.{map_rows, role_rows}
use Rattle.array.specs.Array.{formatted_array, formatted_marks}
use Rattle.array.specs.Rules.{array_rules}
use Rattle.array.specs.Reasons.{array_rows}
use Rattle.reading.specs.Reading.{read_of, read_rules}
use Rattle.reading.specs.Reasons.{read_rows}
use Rattle.fourfold.specs.Writing.{write_of}
use Rattle.writing.specs.Writing.{write_rules}
use Rattle.writing.specs.Reasons.{write_rows}
use Rattle.auditing.specs.Reasons.{audit_rows}
use Rattle.rebuilding.specs.Rebuild.{restored_of, rebuilt_of, rebuild_rules}
use Rattle.rebuilding.specs.Reasons.{rebuild_rows}
use Rattle.planning.specs.Plan.{triples_of, planned, plan_rules}
use Rattle.planning.specs.Reasons.{plan_rows}
use Rattle.answers.specs.declared.Answer.{Answer}
use Rattle.answers.specs.declared.SizesAnswer.{SizesAnswer}
use Rattle.answers.specs.declared.MapAnswer.{MapAnswer}
use Rattle.answers.specs.declared.RoleAnswer.{RoleAnswer}
use Rattle.answers.specs.declared.AuditAnswer.{AuditAnswer}
use Rattle.answers.specs.declared.CountAnswer.{CountAnswer}
use Rattle.answers.specs.Flat.{geometry}
use Rattle.host.proofs.Told.{front_answer, front_count}
use Rattle.host.proofs.Exports as exports
use Rattle.host.proofs.Some as some
use Rattle.calls.specs.Refuses.{both}
use Rattle.calls.specs.Calls.{EveryFunctionForC}
use Rattle.calls.proofs.Settle.{pair, kept_both}
use Rattle.calls.proofs.Heard.{settle_heard, settle_heard_alone}

pub every_function_for_C : EveryFunctionForC
every_function_for_C =
    record {
      fill =
          λ κs v design.
          let o = verdict (fill_rules v (length design.now)) in
          settle_heard _ (fill_rows v (length design.now)) (λ (r : Answer). r.refusal) (λ (r : Answer). r.place) (λ x. x.now) design
          (exports.FillAllowed κs v design) o (held_design v) refl (some.fill_some_result κs v design)
          (λ r l a. exports.fill_told κs v design l r a) (λ r l a. front_answer o r a.0) (λ r l a. a.1)
          (λ r s l m a b. a.0 ∙ sym b.0);
      check =
          λ κs v k design.
          settle_heard_alone _ (design_rows v k design.now) (λ (r : Answer). r.refusal) (λ (r : Answer). r.place)
          (exports.CheckAllowed κs v k design) refl (some.check_some_result κs v k design) (exports.check_told κs v k design)
          (exports.check_two_results κs v k design);
      sizes =
          λ κs v k g u design.
          settle_heard_alone _ (sizes_rows (geometry v k g u) design.now) (λ (r : SizesAnswer). r.refusal) (λ (r : SizesAnswer). r.place)
          (exports.SizesAllowed κs v k g u design) refl (some.sizes_some_result κs v k g u design) (exports.sizes_told κs v k g u design)
          (exports.sizes_two_results κs v k g u design);
      map =
          λ κs v k g u design n.
          settle_heard_alone _ (map_rows (geometry v k g u) design.now n) (λ (r : MapAnswer). r.refusal) (λ (r : MapAnswer). r.place)
          (exports.MapAllowed κs v k g u design n) refl (some.map_some_result κs v k g u design n) (exports.map_told κs v k g u design n)
          (exports.map_two_results κs v k g u design n);
      role =
          λ κs v k g u design disk unit.
          settle_heard_alone _ (role_rows (geometry v k g u) design.now disk unit) (λ (r : RoleAnswer). r.refusal) (λ (r : RoleAnswer). r.place)
          (exports.RoleAllowed κs v k g u design disk unit) refl (some.role_some_result κs v k g u design disk unit) (exports.role_told κs v k g u design disk unit)
          (exports.role_two_results κs v k g u design disk unit);
      format =
          λ κs v k g u design array marks.
          let G = geometry v k g u in
          let o = verdict (array_rules G design.now (length array.now) marks.now) in
          let w = some.format_some_result κs v k g u design array marks in
          settle_heard _ (array_rows G design.now (length array.now) marks.now) (λ (r : Answer). r.refusal) (λ (r : Answer). r.place)
          both (array, marks) (λ r l. exports.FormatAllowed κs v k g u design array marks r l.0 l.1) o
          (formatted_array G, formatted_marks G) refl (w.0, (w.1, w.2), w.3)
          (λ r l a. exports.format_told κs v k g u design array marks l.0 l.1 r a) (λ r l a. front_answer o r a.0)
          (λ r l a. pair a.1 a.2 ∙ kept_both o (formatted_array G) array.now (formatted_marks G) marks.now)
          (λ r s l m a b. a.0 ∙ sym b.0);
      read =
          λ κs v k g u design array marks n offset bytes.
          let G = geometry v k g u in
          let o = verdict (read_rules G design.now (length array.now) marks.now n offset (length bytes.now)) in
          settle_heard _ (read_rows G design.now (length array.now) marks.now n offset (length bytes.now))
          (λ (r : Answer). r.refusal) (λ (r : Answer). r.place) (λ x. x.now) bytes
          (exports.ReadAllowed κs v k g u design array marks n offset bytes) o
          (read_of G design.now array.now n offset (length bytes.now)) refl
          (some.read_some_result κs v k g u design array marks n offset bytes)
          (λ r l a. exports.read_told κs v k g u design array marks n offset bytes l r a) (λ r l a. front_answer o r a.0)
          (λ r l a. a.1) (λ r s l m a b. a.0 ∙ sym b.0);
      write =
          λ κs v k g u design array marks n offset bytes.
          let G = geometry v k g u in
          let o = verdict (write_rules G design.now (length array.now) marks.now n offset (length bytes.now)) in
          settle_heard _ (write_rows G design.now (length array.now) marks.now n offset (length bytes.now))
          (λ (r : Answer). r.refusal) (λ (r : Answer). r.place) (λ x. x.now) array
          (exports.WriteAllowed κs v k g u design array marks n offset bytes) o
          (write_of G design.now array.now n offset bytes.now) refl
          (some.write_some_result κs v k g u design array marks n offset bytes)
          (λ r l a. exports.write_told κs v k g u design array marks n offset bytes l r a) (λ r l a. front_answer o r a.0)
          (λ r l a. a.1) (λ r s l m a b. a.0 ∙ sym b.0);
      audit =
          λ κs v k g u design array.
          settle_heard_alone _ (audit_rows (geometry v k g u) design.now (length array.now)) (λ (r : AuditAnswer). r.refusal) (λ (r : AuditAnswer). r.place)
          (exports.AuditAllowed κs v k g u design array) refl (some.audit_some_result κs v k g u design array) (exports.audit_told κs v k g u design array)
          (exports.audit_two_results κs v k g u design array);
      rebuild =
          λ κs v k g u design array marks.
          let G = geometry v k g u in
          let count = restored_of G design.now marks.now in
          let bytes = rebuilt_of G design.now marks.now array.now in
          let o = answer (rebuild_rules G design.now (length array.now) marks.now) count in
          let w = some.rebuild_some_result κs v k g u design array marks in
          settle_heard _ (rebuild_rows G design.now (length array.now) marks.now)
          (λ (r : CountAnswer). r.refusal) (λ (r : CountAnswer). r.place) both (array, marks)
          (λ r l. exports.RebuildAllowed κs v k g u design array marks r l.0 l.1) o (bytes, formatted_marks G) refl
          (w.0, (w.1, w.2), w.3) (λ r l a. exports.rebuild_told κs v k g u design array marks l.0 l.1 r a)
          (λ r l a. front_count o r a.0)
          (λ r l a. pair a.1 a.2 ∙ kept_both o bytes array.now (formatted_marks G) marks.now)
          (λ r s l m a b. a.0 ∙ sym b.0);
      plan =
          λ κs v k g u design disk list.
          let G = geometry v k g u in
          let o = answer (plan_rules G design.now disk (length list.now)) (triples_of G) in
          settle_heard _ (plan_rows G design.now disk (length list.now)) (λ (r : CountAnswer). r.refusal) (λ (r : CountAnswer). r.place)
          (λ x. x.now) list (exports.PlanAllowed κs v k g u design disk list) o (planned G design.now disk list.now) refl
          (some.plan_some_result κs v k g u design disk list)
          (λ r l a. exports.plan_told κs v k g u design disk list l r a) (λ r l a. front_count o r a.0) (λ r l a. a.1)
          (λ r s l m a b. a.0 ∙ sym b.0);
    }
