-- `auditing::audit_labels` meets its contract: after each row, the sets up to there. Assumes nothing.
use Rattle.std.proofs.Common.{arith}
use Rattle.std.proofs.lemmas.Nat.{row_fits}
use Rattle.geometry.proofs.Laws.{labels_bound}
use Rattle.auditing.proofs.Sets.{found_bad, row_zeros, rows_none, rows_more}
use Rattle.auditing.proofs.audit_labels.Goals as goal

pub loop-i-init : goal.loop-i-init
loop-i-init c = rows_none _ _ _ _

pub audit_row-found-requires-clause-bad_le_s : goal.audit_row-found-requires-clause-bad_le_s
audit_row-found-requires-clause-bad_le_s c =
    (omega (arith, found_bad _ _ _ _ _ c.loop-i.invariant), omega (arith, row_fits _ c.args.geometry.g _ c.args.geometry.g c.loop-i-test.true (omega arith), labels_bound _ c.requires.sound.0))

pub loop-i-preserved : goal.loop-i-preserved
loop-i-preserved c = rows_more _ _ _ _ _ _ _ _ c.loop-i.invariant (row_zeros _ _ _ _) c.audit_row-found.ensures
