-- `auditing::audit_region` meets its contract: after each diagonal, the sets up to there. Assumes nothing.
use Rattle.std.proofs.Common.{◌≡◌}
use Rattle.auditing.specs.Steps.{diagonal_zero}
use Rattle.finding.specs.Steps.{found_from}
use Rattle.auditing.proofs.audit_region.Given as goal

abbrev pub invariant-loop-j : goal.invariant-loop-j
invariant-loop-j l = l.found ≡ found_from (diagonal_zero l.geometry l.start l.array) l.initial.found l.s l.j
