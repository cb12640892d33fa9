-- `auditing::audit_all` meets its contract: after each tuple, the sets up to there. Assumes nothing.
use Rattle.std.proofs.Common.{◌≡◌, ◌*◌}
use Rattle.finding.specs.Bad.{found_below}
use Rattle.auditing.proofs.audit_all.Given as goal

abbrev pub invariant-loop-t : goal.invariant-loop-t
invariant-loop-t l = l.found ≡ found_below l.layout.geometry l.layout.design.now l.array (l.t * l.sets)
