-- Each exported function, over its own contract: what C is told of refusals is what is due, and two answers are one.
-- Assumes nothing.
use Prim.Native.Nat.{ℕ}
use mathlib.Core.Path.{◌≡◌, sym, ◌∙◌}
use mathlib.Core.List.{List}
use lib.Dec.{lit<}
use lib.ListN.{length}
use contract.Lifetimes.{Lfts}
use denote.Ref.{Bor, MutBor}
use Rattle.refusal.specs.Refusal.{answer, verdict}
use Rattle.checking.specs.Rules.{design_rules}
use Rattle.checking.specs.Reasons.{design_rows}
use Rattle.checking.proofs.Reasons.{design_exact}
use Rattle.held.specs.Held.{fill_rules}
use Rattle.held.specs.Reasons.{fill_rows}
use Rattle.held.proofs.Reasons.{fill_exact}
use Rattle.sizes.specs.Sizes.{sizes_rules, sizes_of}
use Rattle.sizes.specs.Reasons.{sizes_rows}
use Rattle.sizes.proofs.Reasons.{sizes_exact}
use Rattle.layout.specs.Places.{four_of, role_at}
use Rattle.address.specs.Address.{map_rules, role_rules}
use Rattle.address.specs.Reasons.{map_rows, role_rows}
use Rattle.address.proofs.Reasons.{map_exact, role_exact}
use Rattle.array.specs.Rules.{array_rules}
use Rattle.array.specs.Reasons.{array_rows}
use Rattle.array.proofs.Reasons.{array_exact}
use Rattle.reading.specs.Reading.{read_rules}
use Rattle.reading.specs.Reasons.{read_rows}
use Rattle.reading.proofs.Reasons.{read_exact}
use Rattle.writing.specs.Writing.{write_rules}
use Rattle.writing.specs.Reasons.{write_rows}
use Rattle.writing.proofs.Reasons.{write_exact}
use Rattle.finding.specs.Bad.{audit_of}
use Rattle.auditing.specs.Auditing.{audit_rules}
use Rattle.auditing.specs.Reasons.{audit_rows}
use Rattle.auditing.proofs.Reasons.{audit_exact}
use Rattle.planning.specs.Plan.{triples_of, plan_rules}
use Rattle.planning.specs.Reasons.{plan_rows}
use Rattle.planning.proofs.Reasons.{plan_exact}
use Rattle.rebuilding.specs.Rebuild.{restored_of, rebuild_rules}
use Rattle.rebuilding.specs.Reasons.{rebuild_rows}
use Rattle.rebuilding.proofs.Reasons.{rebuild_exact}
use Rattle.answers.specs.declared.Answer.{Answer}
use Rattle.answers.specs.declared.SizesAnswer.{SizesAnswer}
use Rattle.answers.specs.declared.MapAnswer.{MapAnswer}
use Rattle.answers.specs.declared.RoleAnswer.{RoleAnswer}
use Rattle.answers.specs.declared.AuditAnswer.{AuditAnswer}
use Rattle.answers.specs.declared.CountAnswer.{CountAnswer}
use Rattle.answers.specs.Flat.{geometry}
use Rattle.host.specs.Told.{Told}
use Rattle.host.proofs.Told.{front_tells, front_answer, front_sizes, front_map, front_role, front_audit, front_count}
use Rattle.host.proofs.himzolven_fill.Reads as fill
use Rattle.host.proofs.himzolven_check.Reads as check
use Rattle.host.proofs.himzolven_sizes.Reads as sizes
use Rattle.host.proofs.himzolven_map.Reads as map
use Rattle.host.proofs.himzolven_role.Reads as role
use Rattle.host.proofs.himzolven_format.Reads as format
use Rattle.host.proofs.himzolven_read.Reads as read
use Rattle.host.proofs.himzolven_write.Reads as write
use Rattle.host.proofs.himzolven_audit.Reads as audit
use Rattle.host.proofs.himzolven_plan.Reads as plan
use Rattle.host.proofs.himzolven_rebuild.Reads as rebuild

-- what each contract allows
abbrev pub FillAllowed : Lfts 1 → ℕ → MutBor (List ℕ) → Answer → MutBor (List ℕ) → Type 0
FillAllowed κs v design r last = fill.Post κs (v, (design, tt)) r (v, (last, tt))

abbrev pub CheckAllowed : Lfts 1 → (v k : ℕ) → Bor (List ℕ) → Answer → Type 0
CheckAllowed κs v k design r = check.Post κs (v, (k, (design, tt))) r (v, (k, (design, tt)))

abbrev pub SizesAllowed : Lfts 1 → (v k g u : ℕ) → Bor (List ℕ) → SizesAnswer → Type 0
SizesAllowed κs v k g u design r =
    sizes.Post κs (v, (k, (g, (u, (design, tt))))) r (v, (k, (g, (u, (design, tt)))))

abbrev pub MapAllowed : Lfts 1 → (v k g u : ℕ) → Bor (List ℕ) → ℕ → MapAnswer → Type 0
MapAllowed κs v k g u design n r =
    map.Post κs (v, (k, (g, (u, (design, (n, tt)))))) r (v, (k, (g, (u, (design, (n, tt))))))

abbrev pub RoleAllowed : Lfts 1 → (v k g u : ℕ) → Bor (List ℕ) → (disk unit : ℕ) → RoleAnswer → Type 0
RoleAllowed κs v k g u design disk unit r =
    role.Post κs (v, (k, (g, (u, (design, (disk, (unit, tt))))))) r (v, (k, (g, (u, (design, (disk, (unit, tt)))))))

abbrev pub FormatAllowed :
    Lfts 3 → (v k g u : ℕ) → (design : Bor (List ℕ)) (array marks : MutBor (List ℕ)) → Answer → (a m : MutBor (List ℕ)) → Type 0
FormatAllowed κs v k g u design array marks r a m =
    format.Post κs (v, (k, (g, (u, (design, (array, (marks, tt))))))) r (v, (k, (g, (u, (design, (a, (m, tt)))))))

abbrev pub ReadAllowed :
    Lfts 4 → (v k g u : ℕ) → (design array marks : Bor (List ℕ)) → (n offset : ℕ) → MutBor (List ℕ) → Answer → MutBor (List ℕ) →
    Type 0
ReadAllowed κs v k g u design array marks n offset bytes r last =
    read.Post κs (v, (k, (g, (u, (design, (array, (marks, (n, (offset, (bytes, tt)))))))))) r
    (v, (k, (g, (u, (design, (array, (marks, (n, (offset, (last, tt))))))))))

abbrev pub WriteAllowed :
    Lfts 4 → (v k g u : ℕ) → (design : Bor (List ℕ)) (array : MutBor (List ℕ)) (marks : Bor (List ℕ)) → (n offset : ℕ) →
    Bor (List ℕ) → Answer → MutBor (List ℕ) → Type 0
WriteAllowed κs v k g u design array marks n offset bytes r last =
    write.Post κs (v, (k, (g, (u, (design, (array, (marks, (n, (offset, (bytes, tt)))))))))) r
    (v, (k, (g, (u, (design, (last, (marks, (n, (offset, (bytes, tt))))))))))

abbrev pub AuditAllowed : Lfts 2 → (v k g u : ℕ) → (design array : Bor (List ℕ)) → AuditAnswer → Type 0
AuditAllowed κs v k g u design array r =
    audit.Post κs (v, (k, (g, (u, (design, (array, tt)))))) r (v, (k, (g, (u, (design, (array, tt))))))

abbrev pub PlanAllowed :
    Lfts 2 → (v k g u : ℕ) → Bor (List ℕ) → (disk : ℕ) → MutBor (List ℕ) → CountAnswer → MutBor (List ℕ) → Type 0
PlanAllowed κs v k g u design disk list r last =
    plan.Post κs (v, (k, (g, (u, (design, (disk, (list, tt))))))) r (v, (k, (g, (u, (design, (disk, (last, tt)))))))

abbrev pub RebuildAllowed :
    Lfts 3 → (v k g u : ℕ) → (design : Bor (List ℕ)) (array marks : MutBor (List ℕ)) → CountAnswer → (array₁ marks₁ : MutBor (List ℕ)) → Type 0
RebuildAllowed κs v k g u design array marks r array₁ marks₁ =
    rebuild.Post κs (v, (k, (g, (u, (design, (array, (marks, tt))))))) r (v, (k, (g, (u, (design, (array₁, (marks₁, tt)))))))

-- what C is told

pub fill_told :
    (κs : Lfts 1) (v : ℕ) (design last : MutBor (List ℕ)) (r : Answer) → FillAllowed κs v design r last →
    Told (fill_rows v (length design.now)) r.refusal r.place
fill_told κs v design last r p =
    front_tells (fill_rows v (length design.now)) (verdict (fill_rules v (length design.now))) r.refusal r.place (lit< tt, (lit< tt, tt)) (fill_exact v (length design.now) tt)
    (front_answer (verdict (fill_rules v (length design.now))) r p.0)

pub check_told :
    (κs : Lfts 1) (v k : ℕ) (design : Bor (List ℕ)) (r : Answer) → CheckAllowed κs v k design r →
    Told (design_rows v k design.now) r.refusal r.place
check_told κs v k design r p =
    front_tells (design_rows v k design.now) (verdict (design_rules v k design.now)) r.refusal r.place (lit< tt, (lit< tt, (lit< tt, (lit< tt, tt)))) (design_exact v k design.now)
    (front_answer (verdict (design_rules v k design.now)) r p)

pub sizes_told :
    (κs : Lfts 1) (v k g u : ℕ) (design : Bor (List ℕ)) (r : SizesAnswer) → SizesAllowed κs v k g u design r →
    Told (sizes_rows (geometry v k g u) design.now) r.refusal r.place
sizes_told κs v k g u design r p =
    front_tells (sizes_rows (geometry v k g u) design.now) (answer (sizes_rules (geometry v k g u) design.now) (sizes_of (geometry v k g u))) r.refusal r.place (lit< tt, (lit< tt, (lit< tt, (lit< tt, (lit< tt, tt))))) (sizes_exact (geometry v k g u) design.now (sizes_of (geometry v k g u)))
    (front_sizes (answer (sizes_rules (geometry v k g u) design.now) (sizes_of (geometry v k g u))) r p)

pub map_told :
    (κs : Lfts 1) (v k g u : ℕ) (design : Bor (List ℕ)) (n : ℕ) (r : MapAnswer) → MapAllowed κs v k g u design n r →
    Told (map_rows (geometry v k g u) design.now n) r.refusal r.place
map_told κs v k g u design n r p =
    front_tells (map_rows (geometry v k g u) design.now n) (answer (map_rules (geometry v k g u) design.now n) (four_of (geometry v k g u) design.now n)) r.refusal r.place (lit< tt, (lit< tt, (lit< tt, (lit< tt, (lit< tt, (lit< tt, tt)))))) (map_exact (geometry v k g u) design.now n (four_of (geometry v k g u) design.now n))
    (front_map (answer (map_rules (geometry v k g u) design.now n) (four_of (geometry v k g u) design.now n)) r p)

pub role_told :
    (κs : Lfts 1) (v k g u : ℕ) (design : Bor (List ℕ)) (disk unit : ℕ) (r : RoleAnswer) →
    RoleAllowed κs v k g u design disk unit r →
    Told (role_rows (geometry v k g u) design.now disk unit) r.refusal r.place
role_told κs v k g u design disk unit r p =
    front_tells (role_rows (geometry v k g u) design.now disk unit) (answer (role_rules (geometry v k g u) design.now disk unit) (role_at (geometry v k g u) design.now disk unit)) r.refusal r.place (lit< tt, (lit< tt, (lit< tt, (lit< tt, (lit< tt, (lit< tt, tt)))))) (role_exact (geometry v k g u) design.now disk unit (role_at (geometry v k g u) design.now disk unit))
    (front_role (answer (role_rules (geometry v k g u) design.now disk unit) (role_at (geometry v k g u) design.now disk unit)) r p)

pub format_told :
    (κs : Lfts 3) (v k g u : ℕ) (design : Bor (List ℕ)) (array marks a m : MutBor (List ℕ)) (r : Answer) →
    FormatAllowed κs v k g u design array marks r a m →
    Told (array_rows (geometry v k g u) design.now (length array.now) marks.now) r.refusal r.place
format_told κs v k g u design array marks a m r p =
    front_tells (array_rows (geometry v k g u) design.now (length array.now) marks.now) (verdict (array_rules (geometry v k g u) design.now (length array.now) marks.now)) r.refusal r.place
    (lit< tt, (lit< tt, (lit< tt, (lit< tt, (lit< tt, (lit< tt, (lit< tt, tt))))))) (array_exact (geometry v k g u) design.now (length array.now) marks.now tt)
    (front_answer (verdict (array_rules (geometry v k g u) design.now (length array.now) marks.now)) r p.0)

pub read_told :
    (κs : Lfts 4) (v k g u : ℕ) (design array marks : Bor (List ℕ)) (n offset : ℕ) (bytes last : MutBor (List ℕ)) (r : Answer) →
    ReadAllowed κs v k g u design array marks n offset bytes r last →
    Told (read_rows (geometry v k g u) design.now (length array.now) marks.now n offset (length bytes.now)) r.refusal r.place
read_told κs v k g u design array marks n offset bytes last r p =
    let rules = read_rules (geometry v k g u) design.now (length array.now) marks.now n offset (length bytes.now) in
    front_tells (read_rows (geometry v k g u) design.now (length array.now) marks.now n offset (length bytes.now)) (verdict rules) r.refusal r.place
    (lit< tt, (lit< tt, (lit< tt, (lit< tt, (lit< tt, (lit< tt, (lit< tt, (lit< tt, (lit< tt, (lit< tt, tt)))))))))) (read_exact (geometry v k g u) design.now (length array.now) marks.now n offset (length bytes.now) tt)
    (front_answer (verdict rules) r p.0)

pub write_told :
    (κs : Lfts 4) (v k g u : ℕ) (design : Bor (List ℕ)) (array : MutBor (List ℕ)) (marks : Bor (List ℕ)) (n offset : ℕ)
    (bytes : Bor (List ℕ)) (last : MutBor (List ℕ)) (r : Answer) →
    WriteAllowed κs v k g u design array marks n offset bytes r last →
    Told (write_rows (geometry v k g u) design.now (length array.now) marks.now n offset (length bytes.now)) r.refusal r.place
write_told κs v k g u design array marks n offset bytes last r p =
    let rules = write_rules (geometry v k g u) design.now (length array.now) marks.now n offset (length bytes.now) in
    front_tells (write_rows (geometry v k g u) design.now (length array.now) marks.now n offset (length bytes.now)) (verdict rules) r.refusal r.place
    (lit< tt, (lit< tt, (lit< tt, (lit< tt, (lit< tt, (lit< tt, (lit< tt, (lit< tt, (lit< tt, (lit< tt, tt)))))))))) (write_exact (geometry v k g u) design.now (length array.now) marks.now n offset (length bytes.now) tt)
    (front_answer (verdict rules) r p.0)

pub audit_told :
    (κs : Lfts 2) (v k g u : ℕ) (design array : Bor (List ℕ)) (r : AuditAnswer) → AuditAllowed κs v k g u design array r →
    Told (audit_rows (geometry v k g u) design.now (length array.now)) r.refusal r.place
audit_told κs v k g u design array r p =
    let found = audit_of (geometry v k g u) design.now array.now in
    let answered = answer (audit_rules (geometry v k g u) design.now (length array.now)) found in
    front_tells (audit_rows (geometry v k g u) design.now (length array.now)) answered r.refusal r.place
    (lit< tt, (lit< tt, (lit< tt, (lit< tt, (lit< tt, (lit< tt, tt)))))) (audit_exact (geometry v k g u) design.now (length array.now) found)
    (front_audit answered r p)

pub plan_told :
    (κs : Lfts 2) (v k g u : ℕ) (design : Bor (List ℕ)) (disk : ℕ) (list last : MutBor (List ℕ)) (r : CountAnswer) →
    PlanAllowed κs v k g u design disk list r last →
    Told (plan_rows (geometry v k g u) design.now disk (length list.now)) r.refusal r.place
plan_told κs v k g u design disk list last r p =
    let count = triples_of (geometry v k g u) in
    let answered = answer (plan_rules (geometry v k g u) design.now disk (length list.now)) count in
    front_tells (plan_rows (geometry v k g u) design.now disk (length list.now)) answered r.refusal r.place
    (lit< tt, (lit< tt, (lit< tt, (lit< tt, (lit< tt, (lit< tt, (lit< tt, tt))))))) (plan_exact (geometry v k g u) design.now disk (length list.now) count)
    (front_count answered r p.0)

pub rebuild_told :
    (κs : Lfts 3) (v k g u : ℕ) (design : Bor (List ℕ)) (array marks array₁ marks₁ : MutBor (List ℕ)) (r : CountAnswer) →
    RebuildAllowed κs v k g u design array marks r array₁ marks₁ →
    Told (rebuild_rows (geometry v k g u) design.now (length array.now) marks.now) r.refusal r.place
rebuild_told κs v k g u design array marks array₁ marks₁ r p =
    let count = restored_of (geometry v k g u) design.now marks.now in
    let answered = answer (rebuild_rules (geometry v k g u) design.now (length array.now) marks.now) count in
    front_tells (rebuild_rows (geometry v k g u) design.now (length array.now) marks.now) answered r.refusal r.place
    (lit< tt, (lit< tt, (lit< tt, (lit< tt, (lit< tt, (lit< tt, (lit< tt, (lit< tt, tt))))))))
    (rebuild_exact (geometry v k g u) design.now (length array.now) marks.now count) (front_count answered r p.0)

-- two answers are one

pub fill_two_results :
    (κs : Lfts 1) (v : ℕ) (design d e : MutBor (List ℕ)) (r s : Answer) →
    FillAllowed κs v design r d → FillAllowed κs v design s e → (r ≡ s) × (d.now ≡ e.now)
fill_two_results κs v design d e r s p q = (p.0 ∙ sym q.0, p.1 ∙ sym q.1)

pub check_two_results :
    (κs : Lfts 1) (v k : ℕ) (design : Bor (List ℕ)) (r s : Answer) →
    CheckAllowed κs v k design r → CheckAllowed κs v k design s → r ≡ s
check_two_results κs v k design r s p q = p ∙ sym q

pub sizes_two_results :
    (κs : Lfts 1) (v k g u : ℕ) (design : Bor (List ℕ)) (r s : SizesAnswer) →
    SizesAllowed κs v k g u design r → SizesAllowed κs v k g u design s → r ≡ s
sizes_two_results κs v k g u design r s p q = p ∙ sym q

pub map_two_results :
    (κs : Lfts 1) (v k g u : ℕ) (design : Bor (List ℕ)) (n : ℕ) (r s : MapAnswer) →
    MapAllowed κs v k g u design n r → MapAllowed κs v k g u design n s → r ≡ s
map_two_results κs v k g u design n r s p q = p ∙ sym q

pub role_two_results :
    (κs : Lfts 1) (v k g u : ℕ) (design : Bor (List ℕ)) (disk unit : ℕ) (r s : RoleAnswer) →
    RoleAllowed κs v k g u design disk unit r → RoleAllowed κs v k g u design disk unit s → r ≡ s
role_two_results κs v k g u design disk unit r s p q = p ∙ sym q

pub format_two_results :
    (κs : Lfts 3) (v k g u : ℕ) (design : Bor (List ℕ)) (array marks a b m w : MutBor (List ℕ)) (r s : Answer) →
    FormatAllowed κs v k g u design array marks r a m → FormatAllowed κs v k g u design array marks s b w →
    (r ≡ s) × (a.now ≡ b.now) × (m.now ≡ w.now)
format_two_results κs v k g u design array marks a b m w r s p q = (p.0 ∙ sym q.0, p.1 ∙ sym q.1, p.2 ∙ sym q.2)

pub read_two_results :
    (κs : Lfts 4) (v k g u : ℕ) (design array marks : Bor (List ℕ)) (n offset : ℕ) (bytes x y : MutBor (List ℕ)) (r s : Answer) →
    ReadAllowed κs v k g u design array marks n offset bytes r x → ReadAllowed κs v k g u design array marks n offset bytes s y →
    (r ≡ s) × (x.now ≡ y.now)
read_two_results κs v k g u design array marks n offset bytes x y r s p q = (p.0 ∙ sym q.0, p.1 ∙ sym q.1)

pub write_two_results :
    (κs : Lfts 4) (v k g u : ℕ) (design : Bor (List ℕ)) (array : MutBor (List ℕ)) (marks : Bor (List ℕ)) (n offset : ℕ)
    (bytes : Bor (List ℕ)) (x y : MutBor (List ℕ)) (r s : Answer) →
    WriteAllowed κs v k g u design array marks n offset bytes r x → WriteAllowed κs v k g u design array marks n offset bytes s y →
    (r ≡ s) × (x.now ≡ y.now)
write_two_results κs v k g u design array marks n offset bytes x y r s p q = (p.0 ∙ sym q.0, p.1 ∙ sym q.1)

pub audit_two_results :
    (κs : Lfts 2) (v k g u : ℕ) (design array : Bor (List ℕ)) (r s : AuditAnswer) →
    AuditAllowed κs v k g u design array r → AuditAllowed κs v k g u design array s → r ≡ s
audit_two_results κs v k g u design array r s p q = p ∙ sym q

pub plan_two_results :
    (κs : Lfts 2) (v k g u : ℕ) (design : Bor (List ℕ)) (disk : ℕ) (list x y : MutBor (List ℕ)) (r s : CountAnswer) →
    PlanAllowed κs v k g u design disk list r x → PlanAllowed κs v k g u design disk list s y → (r ≡ s) × (x.now ≡ y.now)
plan_two_results κs v k g u design disk list x y r s p q = (p.0 ∙ sym q.0, p.1 ∙ sym q.1)

pub rebuild_two_results :
    (κs : Lfts 3) (v k g u : ℕ) (design : Bor (List ℕ)) (array marks x y m n : MutBor (List ℕ)) (r s : CountAnswer) →
    RebuildAllowed κs v k g u design array marks r x m → RebuildAllowed κs v k g u design array marks s y n →
    (r ≡ s) × (x.now ≡ y.now) × (m.now ≡ n.now)
rebuild_two_results κs v k g u design array marks x y m n r s p q =
    (p.0 ∙ sym q.0, p.1 ∙ sym q.1, p.2 ∙ sym q.2)
