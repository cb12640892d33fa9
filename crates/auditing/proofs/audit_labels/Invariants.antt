-- `auditing::audit_labels` meets its contract: after each row, the sets up to there. Assumes nothing.
use Rattle.std.proofs.Common.{◌≡◌, ◌*◌}
use Rattle.auditing.specs.Steps.{outer_zeros}
use Rattle.finding.specs.Steps.{found_from}
use Rattle.auditing.proofs.audit_labels.Given as goal

abbrev pub invariant-loop-i : goal.invariant-loop-i
invariant-loop-i l = l.found ≡ found_from (outer_zeros l.geometry l.regions l.array) l.initial.found l.s (l.i * l.geometry.g)
