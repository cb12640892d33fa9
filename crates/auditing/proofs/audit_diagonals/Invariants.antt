-- `auditing::audit_diagonals` meets its contract: after each region, the sets up to there. Assumes nothing.
use Rattle.std.proofs.Common.{◌≡◌, ◌*◌}
use Rattle.auditing.specs.Steps.{inner_zeros}
use Rattle.finding.specs.Steps.{found_from}
use Rattle.auditing.proofs.audit_diagonals.Given as goal

abbrev pub invariant-loop-l : goal.invariant-loop-l
invariant-loop-l l = l.found ≡ found_from (inner_zeros l.geometry l.regions l.array) l.initial.found l.s (l.l * l.geometry.g)
