-- The functions for C are the calls: whatever the contract of one allows, the contract of the call under it allows, laid flat. So
-- what demands 2 and 3 say of the calls holds for a caller in C. Assumes nothing.
use Rattle.std.specs.Prelude.{ℕ, ◌≡◌}
use contract.Lifetimes.{Lfts}
use Rattle.held.proofs.fill.Reads as fill
use Rattle.checking.proofs.check.Reads as check
use Rattle.sizes.proofs.sizes_of.Reads as sizes_of
use Rattle.address.proofs.map.Reads as map
use Rattle.address.proofs.role.Reads as role
use Rattle.array.proofs.format.Reads as format
use Rattle.reading.proofs.read.Reads as read
use Rattle.writing.proofs.write.Reads as write
use Rattle.auditing.proofs.audit.Reads as audit
use Rattle.rebuilding.proofs.rebuild.Reads as rebuild
use Rattle.planning.proofs.plan.Reads as plan
use Rattle.answers.specs.Flat.{geometry}
use Rattle.host.proofs.himzolven_fill.Reads as c-fill
use Rattle.host.proofs.himzolven_check.Reads as c-check
use Rattle.host.proofs.himzolven_sizes.Reads as c-sizes
use Rattle.host.proofs.himzolven_map.Reads as c-map
use Rattle.host.proofs.himzolven_role.Reads as c-role
use Rattle.host.proofs.himzolven_format.Reads as c-format
use Rattle.host.proofs.himzolven_read.Reads as c_read
use Rattle.host.proofs.himzolven_write.Reads as c-write
use Rattle.host.proofs.himzolven_audit.Reads as c-audit
use Rattle.host.proofs.himzolven_rebuild.Reads as c-rebuild
use Rattle.host.proofs.himzolven_plan.Reads as c-plan
use Rattle.answers.specs.declared.Answer.{Answer}
use Rattle.answers.specs.declared.SizesAnswer.{SizesAnswer}
use Rattle.answers.specs.declared.MapAnswer.{MapAnswer}
use Rattle.answers.specs.declared.RoleAnswer.{RoleAnswer}
use Rattle.answers.specs.declared.AuditAnswer.{AuditAnswer}
use Rattle.answers.specs.declared.CountAnswer.{CountAnswer}
use Rattle.answers.specs.Flat.{flat_answer, flat_sizes, flat_map, flat_role, flat_audit, flat_count}
use Rattle.calls.specs.Refuses.{Lent, LentMut}
use Rattle.sizes.specs.declared.Sizes.{Sizes}
use Rattle.layout.specs.declared.Four.{Four}
use Rattle.cells.specs.declared.Role.{Role}
use Rattle.finding.specs.declared.Found.{Found}
use Rattle.std.specs.Prelude.{Result}
use Rattle.refusal.specs.declared.Refusal.{Refusal}
use Rattle.refusal.specs.Refusal.{outcome_of}

pub record SameAsTheCall : Type 0 where
  pub fill :
      (κs : Lfts 1) (v : ℕ) (design design₁ : LentMut) (c : Answer) →
      c-fill.Post κs (v, (design, tt)) c (v, (design₁, tt)) →
      (r : Result (Unit {0}) Refusal) × (flat_answer (outcome_of r) ≡ c)
      × fill.Post κs (v, (design, tt)) r
      (v, (design₁, tt))
  pub check :
      (κs : Lfts 1) (v k : ℕ) (design : Lent) (c : Answer) →
      c-check.Post κs (v, (k, (design, tt))) c (v, (k, (design, tt))) →
      (r : Result (Unit {0}) Refusal) × (flat_answer (outcome_of r) ≡ c)
      × check.Post κs (v, (k, (design, tt))) r
      (v, (k, (design, tt)))
  pub sizes :
      (κs : Lfts 1) (v k g u : ℕ) (design : Lent) (c : SizesAnswer) →
      c-sizes.Post κs (v, (k, (g, (u, (design, tt))))) c (v, (k, (g, (u, (design, tt))))) →
      (r : Result Sizes Refusal) × (flat_sizes (outcome_of r) ≡ c)
      × sizes_of.Post κs (geometry v k g u, (design, tt)) r
      (geometry v k g u, (design, tt))
  pub map :
      (κs : Lfts 1) (v k g u : ℕ) (design : Lent) (n : ℕ) (c : MapAnswer) →
      c-map.Post κs (v, (k, (g, (u, (design, (n, tt)))))) c (v, (k, (g, (u, (design, (n, tt)))))) →
      (r : Result Four Refusal) × (flat_map (outcome_of r) ≡ c)
      × map.Post κs (geometry v k g u, (design, (record { 0 = n }, tt))) r
      (geometry v k g u, (design, (record { 0 = n }, tt)))
  pub role :
      (κs : Lfts 1) (v k g u : ℕ) (design : Lent) (disk unit : ℕ) (c : RoleAnswer) →
      c-role.Post κs (v, (k, (g, (u, (design, (disk, (unit, tt))))))) c (v, (k, (g, (u, (design, (disk, (unit, tt))))))) →
      (r : Result Role Refusal) × (flat_role (outcome_of r) ≡ c)
      × role.Post κs (geometry v k g u, (design, (record { 0 = disk }, (record { 0 = unit }, tt)))) r
      (geometry v k g u, (design, (record { 0 = disk }, (record { 0 = unit }, tt))))
  pub format :
      (κs : Lfts 3) (v k g u : ℕ) (design : Lent) (array marks array₁ marks₁ : LentMut) (c : Answer) →
      c-format.Post κs (v, (k, (g, (u, (design, (array, (marks, tt))))))) c (v, (k, (g, (u, (design, (array₁, (marks₁, tt))))))) →
      (r : Result (Unit {0}) Refusal) × (flat_answer (outcome_of r) ≡ c)
      × format.Post κs (geometry v k g u, (design, (array, (marks, tt)))) r
      (geometry v k g u, (design, (array₁, (marks₁, tt))))
  pub read :
      (κs : Lfts 4) (v k g u : ℕ) (design array marks : Lent) (n offset : ℕ) (bytes bytes₁ : LentMut) (c : Answer) →
      c_read.Post κs (v, (k, (g, (u, (design, (array, (marks, (n, (offset, (bytes, tt)))))))))) c
      (v, (k, (g, (u, (design, (array, (marks, (n, (offset, (bytes₁, tt)))))))))) →
      (r : Result (Unit {0}) Refusal) × (flat_answer (outcome_of r) ≡ c)
      × read.Post κs (geometry v k g u, (design, (array, (marks, (record { 0 = n }, (offset, (bytes, tt))))))) r
      (geometry v k g u, (design, (array, (marks, (record { 0 = n }, (offset, (bytes₁, tt)))))))
  pub write :
      (κs : Lfts 4) (v k g u : ℕ) (design : Lent) (array : LentMut) (marks : Lent) (n offset : ℕ) (bytes : Lent) (array₁ : LentMut) (c : Answer) →
      c-write.Post κs (v, (k, (g, (u, (design, (array, (marks, (n, (offset, (bytes, tt)))))))))) c
      (v, (k, (g, (u, (design, (array₁, (marks, (n, (offset, (bytes, tt)))))))))) →
      (r : Result (Unit {0}) Refusal) × (flat_answer (outcome_of r) ≡ c)
      × write.Post κs (geometry v k g u, (design, (array, (marks, (record { 0 = n }, (offset, (bytes, tt))))))) r
      (geometry v k g u, (design, (array₁, (marks, (record { 0 = n }, (offset, (bytes, tt)))))))
  pub audit :
      (κs : Lfts 2) (v k g u : ℕ) (design array : Lent) (c : AuditAnswer) →
      c-audit.Post κs (v, (k, (g, (u, (design, (array, tt)))))) c (v, (k, (g, (u, (design, (array, tt)))))) →
      (r : Result Found Refusal) × (flat_audit (outcome_of r) ≡ c)
      × audit.Post κs (geometry v k g u, (design, (array, tt))) r
      (geometry v k g u, (design, (array, tt)))
  pub rebuild :
      (κs : Lfts 3) (v k g u : ℕ) (design : Lent) (array marks array₁ marks₁ : LentMut) (c : CountAnswer) →
      c-rebuild.Post κs (v, (k, (g, (u, (design, (array, (marks, tt))))))) c
      (v, (k, (g, (u, (design, (array₁, (marks₁, tt))))))) →
      (r : Result ℕ Refusal) × (flat_count (outcome_of r) ≡ c)
      × rebuild.Post κs (geometry v k g u, (design, (array, (marks, tt)))) r
      (geometry v k g u, (design, (array₁, (marks₁, tt))))
  pub plan :
      (κs : Lfts 2) (v k g u : ℕ) (design : Lent) (disk : ℕ) (list list₁ : LentMut) (c : CountAnswer) →
      c-plan.Post κs (v, (k, (g, (u, (design, (disk, (list, tt))))))) c (v, (k, (g, (u, (design, (disk, (list₁, tt))))))) →
      (r : Result ℕ Refusal) × (flat_count (outcome_of r) ≡ c)
      × plan.Post κs (geometry v k g u, (design, (record { 0 = disk }, (list, tt)))) r
      (geometry v k g u, (design, (record { 0 = disk }, (list₁, tt))))
