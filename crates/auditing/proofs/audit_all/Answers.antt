-- `auditing::audit_all` meets its contract: after each tuple, the sets up to there. Assumes nothing.
use Rattle.std.proofs.Common.{arith}
use Rattle.auditing.proofs.Sets.{audits_none, audits_end, audits_bad, audits_more, audits_all}
use Rattle.auditing.proofs.audit_all.Goals as goal

pub loop-t-init : goal.loop-t-init
loop-t-init c = audits_none _ _ _ c.args.layout.now.laid.sound _ c.tuple_sets-sets.ensures

pub overflow_mul-t : goal.overflow_mul-t
overflow_mul-t c = omega (arith, audits_end c.args.layout.now.geometry c.args.layout.now.design.now c.args.array.now c.args.layout.now.laid.sound _ c.tuple_sets-sets.ensures c.loop-t.t (omega arith))

pub audit_tuple-found-requires-clause-bad_le_s : goal.audit_tuple-found-requires-clause-bad_le_s
audit_tuple-found-requires-clause-bad_le_s c = audits_bad _ _ _ c.args.layout.now.laid.sound _ c.tuple_sets-sets.ensures _ (omega arith) _ c.loop-t.invariant

pub loop-t-preserved : goal.loop-t-preserved
loop-t-preserved c =
    audits_more _ _ _ c.args.layout.now.laid.sound _ c.tuple_sets-sets.ensures _ (omega arith) _ _ c.loop-t.invariant c.audit_tuple-found.ensures

pub returns : goal.returns
returns c = audits_all _ _ _ c.args.layout.now.laid.sound _ c.tuple_sets-sets.ensures _ _ (omega arith) c.loop-t.invariant
