-- 00, demand 1: "Every public call takes any design list, sizes, marks and bytes, and ends. It refuses by a numbered reason
-- exactly when our rules give that reason. A refusal alters no lent byte." One line for each public call, over its own contract
-- (`Reads.Pre`, `Reads.Post`), for all arguments; that it ends is part of its proof. The lists of numbers are the table of which
-- refusals apply to which call. A list that is not changed stands as one reference before and after. Assumes nothing.
use Rattle.std.specs.Prelude.{ℕ, [], ◌∷◌, length}
use contract.Lifetimes.{Lfts}
use Rattle.geometry.specs.declared.Geometry.{Geometry}
use Rattle.geometry.specs.declared.Disk.{Disk}
use Rattle.geometry.specs.declared.Unit.{Unit as UnitNumber}
use Rattle.geometry.specs.declared.UserUnit.{UserUnit}
use Rattle.checking.specs.Reasons.{design_rows}
use Rattle.held.specs.Reasons.{fill_rows}
use Rattle.sizes.specs.Reasons.{sizes_rows}
use Rattle.address.specs.Reasons.{map_rows, role_rows}
use Rattle.array.specs.Reasons.{array_rows}
use Rattle.reading.specs.Reasons.{read_rows}
use Rattle.writing.specs.Reasons.{write_rows}
use Rattle.auditing.specs.Reasons.{audit_rows}
use Rattle.rebuilding.specs.Reasons.{rebuild_rows}
use Rattle.planning.specs.Reasons.{plan_rows}
use Rattle.lostset.specs.declared.LostSet.{LostSet}
use Rattle.held.proofs.fill.Reads as fill
use Rattle.checking.proofs.check.Reads as check
use Rattle.sizes.proofs.check_sizes.Reads as check_sizes
use Rattle.sizes.proofs.sizes_of.Reads as sizes_of
use Rattle.address.proofs.map.Reads as map
use Rattle.address.proofs.role.Reads as role
use Rattle.array.proofs.check_array.Reads as check_array
use Rattle.array.proofs.format.Reads as format
use Rattle.reading.proofs.read.Reads as read
use Rattle.writing.proofs.write.Reads as write
use Rattle.auditing.proofs.audit.Reads as audit
use Rattle.rebuilding.proofs.rebuild.Reads as rebuild
use Rattle.planning.proofs.plan.Reads as plan
use Rattle.lostset.proofs.LostSet.none.Reads as none
use Rattle.lostset.proofs.LostSet.mark.Reads as mark
use Rattle.lostset.proofs.LostSet.clear.Reads as clear
use Rattle.lostset.proofs.LostSet.has.Reads as has
use Rattle.lostset.proofs.from_marks.Reads as from_marks
use Rattle.answers.specs.Flat.{geometry}
use Rattle.host.proofs.himzolven_fill.Reads as c-fill
use Rattle.host.proofs.himzolven_check.Reads as c-check
use Rattle.host.proofs.himzolven_sizes.Reads as c-sizes
use Rattle.host.proofs.himzolven_map.Reads as c-map
use Rattle.host.proofs.himzolven_role.Reads as c-role
use Rattle.host.proofs.himzolven_format.Reads as c-format
use Rattle.host.proofs.himzolven_read.Reads as c_read
use Rattle.host.proofs.himzolven_write.Reads as c-write
use Rattle.host.proofs.himzolven_audit.Reads as c-audit
use Rattle.host.proofs.himzolven_rebuild.Reads as c-rebuild
use Rattle.host.proofs.himzolven_plan.Reads as c-plan
use Rattle.calls.specs.Refuses.{Lent, LentMut, nothing, both, always, Refuses}
use Rattle.calls.specs.Heard.{heard_answer, heard_sizes, heard_map, heard_role, heard_audit, heard_count}
use Rattle.refusal.specs.Refusal.{outcome_of}

-- the calls in Rattle
pub record EveryCall : Type 0 where
  pub fill :
      (κs : Lfts 1) (v : ℕ) (design : LentMut) →
      Refuses (fill.Pre κs (v, (design, tt)))
      (1 ∷ 3 ∷ []) (fill_rows v (length design.now)) outcome_of (λ x. x.now) design
      (λ r l. fill.Post κs (v, (design, tt)) r (v, (l, tt)))
  pub check :
      (κs : Lfts 1) (v k : ℕ) (design : Lent) →
      Refuses (check.Pre κs (v, (k, (design, tt))))
      (2 ∷ 3 ∷ 4 ∷ 5 ∷ []) (design_rows v k design.now) outcome_of nothing tt
      (λ r l. check.Post κs (v, (k, (design, tt))) r (v, (k, (design, tt))))
  pub check_sizes :
      (κs : Lfts 1) (G : Geometry) (design : Lent) →
      Refuses (check_sizes.Pre κs (G, (design, tt)))
      (2 ∷ 3 ∷ 4 ∷ 5 ∷ 6 ∷ []) (sizes_rows G design.now) outcome_of nothing tt
      (λ r l. check_sizes.Post κs (G, (design, tt)) r (G, (design, tt)))
  pub sizes_of :
      (κs : Lfts 1) (G : Geometry) (design : Lent) →
      Refuses (sizes_of.Pre κs (G, (design, tt)))
      (2 ∷ 3 ∷ 4 ∷ 5 ∷ 6 ∷ []) (sizes_rows G design.now) outcome_of nothing tt
      (λ r l. sizes_of.Post κs (G, (design, tt)) r (G, (design, tt)))
  pub map :
      (κs : Lfts 1) (G : Geometry) (design : Lent) (n : UserUnit) →
      Refuses (map.Pre κs (G, (design, (n, tt))))
      (2 ∷ 3 ∷ 4 ∷ 5 ∷ 6 ∷ 10 ∷ []) (map_rows G design.now n.0) outcome_of nothing tt
      (λ r l. map.Post κs (G, (design, (n, tt))) r (G, (design, (n, tt))))
  pub role :
      (κs : Lfts 1) (G : Geometry) (design : Lent) (disk : Disk) (unit : UnitNumber) →
      Refuses (role.Pre κs (G, (design, (disk, (unit, tt)))))
      (2 ∷ 3 ∷ 4 ∷ 5 ∷ 6 ∷ 9 ∷ []) (role_rows G design.now disk.0 unit.0) outcome_of nothing tt
      (λ r l. role.Post κs (G, (design, (disk, (unit, tt)))) r (G, (design, (disk, (unit, tt)))))
  pub check_array :
      (κs : Lfts 2) (G : Geometry) (design : Lent) (bytes : ℕ) (marks : Lent) →
      Refuses (check_array.Pre κs (G, (design, (bytes, (marks, tt)))))
      (2 ∷ 3 ∷ 4 ∷ 5 ∷ 6 ∷ 7 ∷ 8 ∷ []) (array_rows G design.now bytes marks.now) outcome_of nothing tt
      (λ r l. check_array.Post κs (G, (design, (bytes, (marks, tt)))) r (G, (design, (bytes, (marks, tt)))))
  pub format :
      (κs : Lfts 3) (G : Geometry) (design : Lent) (array marks : LentMut) →
      Refuses (format.Pre κs (G, (design, (array, (marks, tt)))))
      (2 ∷ 3 ∷ 4 ∷ 5 ∷ 6 ∷ 7 ∷ 8 ∷ []) (array_rows G design.now (length array.now) marks.now)
      outcome_of both (array, marks)
      (λ r l. format.Post κs (G, (design, (array, (marks, tt)))) r (G, (design, (l.0, (l.1, tt)))))
  pub read :
      (κs : Lfts 4) (G : Geometry) (design array marks : Lent) (n : UserUnit) (offset : ℕ) (out : LentMut) →
      Refuses (read.Pre κs (G, (design, (array, (marks, (n, (offset, (out, tt))))))))
      (2 ∷ 3 ∷ 4 ∷ 5 ∷ 6 ∷ 7 ∷ 8 ∷ 10 ∷ 11 ∷ 12 ∷ [])
      (read_rows G design.now (length array.now) marks.now n.0 offset (length out.now))
      outcome_of (λ x. x.now) out
      (λ r l. read.Post κs (G, (design, (array, (marks, (n, (offset, (out, tt))))))) r
      (G, (design, (array, (marks, (n, (offset, (l, tt))))))))
  pub write :
      (κs : Lfts 4) (G : Geometry) (design : Lent) (array : LentMut) (marks : Lent) (n : UserUnit) (offset : ℕ) (new : Lent) →
      Refuses (write.Pre κs (G, (design, (array, (marks, (n, (offset, (new, tt))))))))
      (2 ∷ 3 ∷ 4 ∷ 5 ∷ 6 ∷ 7 ∷ 8 ∷ 10 ∷ 11 ∷ 12 ∷ [])
      (write_rows G design.now (length array.now) marks.now n.0 offset (length new.now))
      outcome_of (λ x. x.now) array
      (λ r l. write.Post κs (G, (design, (array, (marks, (n, (offset, (new, tt))))))) r
      (G, (design, (l, (marks, (n, (offset, (new, tt))))))))
  pub audit :
      (κs : Lfts 2) (G : Geometry) (design array : Lent) →
      Refuses (audit.Pre κs (G, (design, (array, tt))))
      (2 ∷ 3 ∷ 4 ∷ 5 ∷ 6 ∷ 7 ∷ []) (audit_rows G design.now (length array.now)) outcome_of nothing tt
      (λ r l. audit.Post κs (G, (design, (array, tt))) r (G, (design, (array, tt))))
  pub rebuild :
      (κs : Lfts 3) (G : Geometry) (design : Lent) (array marks : LentMut) →
      Refuses (rebuild.Pre κs (G, (design, (array, (marks, tt)))))
      (2 ∷ 3 ∷ 4 ∷ 5 ∷ 6 ∷ 7 ∷ 8 ∷ 13 ∷ []) (rebuild_rows G design.now (length array.now) marks.now)
      outcome_of both (array, marks)
      (λ r l. rebuild.Post κs (G, (design, (array, (marks, tt)))) r (G, (design, (l.0, (l.1, tt)))))
  pub plan :
      (κs : Lfts 2) (G : Geometry) (design : Lent) (disk : Disk) (list : LentMut) →
      Refuses (plan.Pre κs (G, (design, (disk, (list, tt)))))
      (2 ∷ 3 ∷ 4 ∷ 5 ∷ 6 ∷ 9 ∷ 14 ∷ []) (plan_rows G design.now disk.0 (length list.now)) outcome_of (λ x. x.now) list
      (λ r l. plan.Post κs (G, (design, (disk, (list, tt)))) r (G, (design, (disk, (l, tt)))))
  pub none :
      (κs : Lfts 0) →
      Refuses (none.Pre κs tt) [] [] always nothing tt
      (λ r l. none.Post κs tt r tt)
  pub mark :
      (κs : Lfts 0) (s : LostSet) (disk : Disk) →
      Refuses (mark.Pre κs (s, (disk, tt))) [] [] always nothing tt
      (λ r l. mark.Post κs (s, (disk, tt)) r (s, (disk, tt)))
  pub clear :
      (κs : Lfts 0) (s : LostSet) (disk : Disk) →
      Refuses (clear.Pre κs (s, (disk, tt))) [] [] always nothing tt
      (λ r l. clear.Post κs (s, (disk, tt)) r (s, (disk, tt)))
  pub has :
      (κs : Lfts 0) (s : LostSet) (disk : Disk) →
      Refuses (has.Pre κs (s, (disk, tt))) [] [] always nothing tt
      (λ r l. has.Post κs (s, (disk, tt)) r (s, (disk, tt)))
  pub from_marks :
      (κs : Lfts 1) (marks : Lent) →
      Refuses (from_marks.Pre κs (marks, tt)) [] [] always nothing tt
      (λ r l. from_marks.Post κs (marks, tt) r (marks, tt))

-- the functions exported to C, `himzolven_fill` and so on
pub record EveryFunctionForC : Type 0 where
  pub fill :
      (κs : Lfts 1) (v : ℕ) (design : LentMut) →
      Refuses (c-fill.Pre κs (v, (design, tt)))
      (1 ∷ 3 ∷ []) (fill_rows v (length design.now)) heard_answer (λ x. x.now) design
      (λ r l. c-fill.Post κs (v, (design, tt)) r (v, (l, tt)))
  pub check :
      (κs : Lfts 1) (v k : ℕ) (design : Lent) →
      Refuses (c-check.Pre κs (v, (k, (design, tt))))
      (2 ∷ 3 ∷ 4 ∷ 5 ∷ []) (design_rows v k design.now) heard_answer nothing tt
      (λ r l. c-check.Post κs (v, (k, (design, tt))) r (v, (k, (design, tt))))
  pub sizes :
      (κs : Lfts 1) (v k g u : ℕ) (design : Lent) →
      Refuses (c-sizes.Pre κs (v, (k, (g, (u, (design, tt))))))
      (2 ∷ 3 ∷ 4 ∷ 5 ∷ 6 ∷ []) (sizes_rows (geometry v k g u) design.now) heard_sizes nothing tt
      (λ r l. c-sizes.Post κs (v, (k, (g, (u, (design, tt))))) r (v, (k, (g, (u, (design, tt))))))
  pub map :
      (κs : Lfts 1) (v k g u : ℕ) (design : Lent) (n : ℕ) →
      Refuses (c-map.Pre κs (v, (k, (g, (u, (design, (n, tt)))))))
      (2 ∷ 3 ∷ 4 ∷ 5 ∷ 6 ∷ 10 ∷ []) (map_rows (geometry v k g u) design.now n) heard_map nothing tt
      (λ r l. c-map.Post κs (v, (k, (g, (u, (design, (n, tt)))))) r (v, (k, (g, (u, (design, (n, tt)))))))
  pub role :
      (κs : Lfts 1) (v k g u : ℕ) (design : Lent) (disk unit : ℕ) →
      Refuses (c-role.Pre κs (v, (k, (g, (u, (design, (disk, (unit, tt))))))))
      (2 ∷ 3 ∷ 4 ∷ 5 ∷ 6 ∷ 9 ∷ []) (role_rows (geometry v k g u) design.now disk unit) heard_role nothing tt
      (λ r l. c-role.Post κs (v, (k, (g, (u, (design, (disk, (unit, tt))))))) r
      (v, (k, (g, (u, (design, (disk, (unit, tt))))))))
  pub format :
      (κs : Lfts 3) (v k g u : ℕ) (design : Lent) (array marks : LentMut) →
      Refuses (c-format.Pre κs (v, (k, (g, (u, (design, (array, (marks, tt))))))))
      (2 ∷ 3 ∷ 4 ∷ 5 ∷ 6 ∷ 7 ∷ 8 ∷ [])
      (array_rows (geometry v k g u) design.now (length array.now) marks.now)
      heard_answer both (array, marks)
      (λ r l. c-format.Post κs (v, (k, (g, (u, (design, (array, (marks, tt))))))) r
      (v, (k, (g, (u, (design, (l.0, (l.1, tt))))))))
  pub read :
      (κs : Lfts 4) (v k g u : ℕ) (design array marks : Lent) (n offset : ℕ) (bytes : LentMut) →
      Refuses (c_read.Pre κs (v, (k, (g, (u, (design, (array, (marks, (n, (offset, (bytes, tt)))))))))))
      (2 ∷ 3 ∷ 4 ∷ 5 ∷ 6 ∷ 7 ∷ 8 ∷ 10 ∷ 11 ∷ 12 ∷ [])
      (read_rows (geometry v k g u) design.now (length array.now) marks.now n offset (length bytes.now))
      heard_answer (λ x. x.now) bytes
      (λ r l. c_read.Post κs (v, (k, (g, (u, (design, (array, (marks, (n, (offset, (bytes, tt)))))))))) r
      (v, (k, (g, (u, (design, (array, (marks, (n, (offset, (l, tt)))))))))))
  pub write :
      (κs : Lfts 4) (v k g u : ℕ) (design : Lent) (array : LentMut) (marks : Lent) (n offset : ℕ) (bytes : Lent) →
      Refuses (c-write.Pre κs (v, (k, (g, (u, (design, (array, (marks, (n, (offset, (bytes, tt)))))))))))
      (2 ∷ 3 ∷ 4 ∷ 5 ∷ 6 ∷ 7 ∷ 8 ∷ 10 ∷ 11 ∷ 12 ∷ [])
      (write_rows (geometry v k g u) design.now (length array.now) marks.now n offset (length bytes.now))
      heard_answer (λ x. x.now) array
      (λ r l. c-write.Post κs (v, (k, (g, (u, (design, (array, (marks, (n, (offset, (bytes, tt)))))))))) r
      (v, (k, (g, (u, (design, (l, (marks, (n, (offset, (bytes, tt)))))))))))
  pub audit :
      (κs : Lfts 2) (v k g u : ℕ) (design array : Lent) →
      Refuses (c-audit.Pre κs (v, (k, (g, (u, (design, (array, tt)))))))
      (2 ∷ 3 ∷ 4 ∷ 5 ∷ 6 ∷ 7 ∷ []) (audit_rows (geometry v k g u) design.now (length array.now))
      heard_audit nothing tt
      (λ r l. c-audit.Post κs (v, (k, (g, (u, (design, (array, tt)))))) r (v, (k, (g, (u, (design, (array, tt)))))))
  pub rebuild :
      (κs : Lfts 3) (v k g u : ℕ) (design : Lent) (array marks : LentMut) →
      Refuses (c-rebuild.Pre κs (v, (k, (g, (u, (design, (array, (marks, tt))))))))
      (2 ∷ 3 ∷ 4 ∷ 5 ∷ 6 ∷ 7 ∷ 8 ∷ 13 ∷ [])
      (rebuild_rows (geometry v k g u) design.now (length array.now) marks.now)
      heard_count both (array, marks)
      (λ r l. c-rebuild.Post κs (v, (k, (g, (u, (design, (array, (marks, tt))))))) r
      (v, (k, (g, (u, (design, (l.0, (l.1, tt))))))))
  pub plan :
      (κs : Lfts 2) (v k g u : ℕ) (design : Lent) (disk : ℕ) (list : LentMut) →
      Refuses (c-plan.Pre κs (v, (k, (g, (u, (design, (disk, (list, tt))))))))
      (2 ∷ 3 ∷ 4 ∷ 5 ∷ 6 ∷ 9 ∷ 14 ∷ []) (plan_rows (geometry v k g u) design.now disk (length list.now))
      heard_count (λ x. x.now) list
      (λ r l. c-plan.Post κs (v, (k, (g, (u, (design, (disk, (list, tt))))))) r
      (v, (k, (g, (u, (design, (disk, (l, tt))))))))
