-- `auditing::audit_region` meets its contract: after each diagonal, the sets up to there. Assumes nothing.
use Rattle.std.proofs.Common.{sym, arith}
use Rattle.finding.proofs.Steps.{from_none, from_next}
use Rattle.auditing.proofs.Sets.{diagonal_inside, diagonal_zero_lem, found_bad}
use Rattle.auditing.proofs.audit_region.Goals as goal

pub loop-j-init : goal.loop-j-init
loop-j-init c = sym (from_none _ _ _)

pub zero_sum-requires : goal.zero_sum-requires
zero_sum-requires c = diagonal_inside _ c.requires.sound.0 _ _ _ c.diagonal_starts.ensures _ c.requires.sound.2 c.requires.sound.1

pub with_set-found-requires : goal.with_set-found-requires
with_set-found-requires c = omega (arith, found_bad _ _ _ _ _ c.loop-j.invariant)

pub loop-j-preserved : goal.loop-j-preserved
loop-j-preserved c =
    from_next _ _ _ _ _ _ _ c.loop-j.invariant c.with_set-found.ensures
    (diagonal_zero_lem _ c.requires.sound.0 _ _ _ c.diagonal_starts.ensures _ _ c.zero_sum.ensures)
