-- `auditing::audit_row` meets its contract: after each column, the sets up to there. Assumes nothing.
use Rattle.std.proofs.Common.{sym, arith}
use Rattle.finding.proofs.Steps.{from_none, from_next}
use Rattle.auditing.proofs.Sets.{label_inside, label_zero_lem, found_bad}
use Rattle.auditing.proofs.audit_row.Goals as goal

pub loop-c-init : goal.loop-c-init
loop-c-init c = sym (from_none _ _ _)

pub zero_sum-requires : goal.zero_sum-requires
zero_sum-requires c = label_inside _ c.requires.sound.0 _ _ _ _ c.label_starts.ensures _ c.requires.sound.2 c.requires.sound.3 c.requires.sound.1

pub with_set-found-requires : goal.with_set-found-requires
with_set-found-requires c = omega (arith, found_bad _ _ _ _ _ c.loop-c.invariant)

pub loop-c-preserved : goal.loop-c-preserved
loop-c-preserved c =
    from_next _ _ _ _ _ _ _ c.loop-c.invariant c.with_set-found.ensures
    (label_zero_lem _ c.requires.sound.0 _ _ _ _ c.label_starts.ensures _ _ c.zero_sum.ensures)
