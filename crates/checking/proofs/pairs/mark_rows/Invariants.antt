-- `mark_rows`: the table counts the rows that came. Assumes nothing.
use lib.ListN.{length}
use Rattle.checking.specs.Table.{Counted}
use Rattle.checking.proofs.Chunks.{CutTo}
use Rattle.checking.proofs.pairs.mark_rows.Given as goal

abbrev pub invariant-loop-row : goal.invariant-loop-row
invariant-loop-row l =
    CutTo l.k l.design (length l.yielded) l.row-iterator × Counted l.v l.k (length l.yielded) l.design l.table
