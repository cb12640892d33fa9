-- `auditing::audit_row` meets its contract: after each column, the sets up to there. Assumes nothing.
use Rattle.std.proofs.Common.{◌≡◌}
use Rattle.auditing.specs.Steps.{label_zero}
use Rattle.finding.specs.Steps.{found_from}
use Rattle.auditing.proofs.audit_row.Given as goal

abbrev pub invariant-loop-c : goal.invariant-loop-c
invariant-loop-c l = l.found ≡ found_from (label_zero l.geometry l.regions l.array l.row) l.initial.found l.s l.c
