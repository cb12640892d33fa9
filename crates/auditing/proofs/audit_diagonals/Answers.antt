-- `auditing::audit_diagonals` meets its contract: after each region, the sets up to there. Assumes nothing.
use Rattle.std.proofs.Common.{arith}
use Rattle.std.proofs.lemmas.Nat.{row_fits}
use Rattle.geometry.proofs.Laws.{diagonals_bound}
use Rattle.auditing.proofs.Sets.{found_bad, region_zeros, rows_none, rows_more}
use Rattle.auditing.proofs.audit_diagonals.Goals as goal

pub loop-l-init : goal.loop-l-init
loop-l-init c = rows_none _ _ _ _

pub audit_region-found-requires-clause-bad_le_s : goal.audit_region-found-requires-clause-bad_le_s
audit_region-found-requires-clause-bad_le_s c =
    (omega (arith, found_bad _ _ _ _ _ c.loop-l.invariant), omega (arith, row_fits _ c.args.geometry.g _ c.args.geometry.g c.loop-l-test.true (omega arith), diagonals_bound _ c.requires.sound.0))

pub loop-l-preserved : goal.loop-l-preserved
loop-l-preserved c = rows_more _ _ _ _ _ _ _ _ c.loop-l.invariant (region_zeros _ c.args.regions.now _ c.loop-l.l) c.audit_region-found.ensures
