-- `mark_with`: the pairs of the group at position l with those that were passed behind it are counted. Assumes nothing.
use Prim.Native.Nat.{◌+◌}
use Rattle.checking.proofs.Marks.{MarkedTo}
use Rattle.checking.proofs.pairs.mark_with.Given as goal

abbrev pub invariant-loop-c : goal.invariant-loop-c
invariant-loop-c l = MarkedTo l.v l.row l.l l.base (l.l + 1 + l.c-index) l.initial.table l.table
