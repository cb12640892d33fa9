-- `mark_rows`: the table counts the rows that came. Assumes nothing.
use Rattle.std.proofs.Common.{length}
use Rattle.std.proofs.lemmas.List.{length_push}
use Rattle.checking.proofs.Chunks.{IsRow, cut_row, cut_next, cut_all}
use Rattle.checking.proofs.Marks.{counted_row, counted_next}
use Rattle.checking.proofs.pairs.mark_rows.Goals as goal
use Rattle.checking.proofs.pairs.mark_rows.Goals.{In-Some}

row : (c : In-Some) → IsRow c.args.k c.args.design.now (length c.loop-row.yielded) c.in-Some.row.now
row c = let s = c.in-Some.ensures.steps in cut_row _ _ _ _ c.next.new.self _ c.loop-row.invariant.0 s.1.0 s.1.1

pub mark_row-requires : goal.mark_row-requires
mark_row-requires c =
    counted_row _ _ _ _ _ _ _ c.requires.0 (row (goal.at.mark_row-requires c).In-Some) c.loop-row.invariant.1

pub loop-row-preserved : goal.loop-row-preserved
loop-row-preserved c =
    let s = c.in-Some.ensures.steps in
    let i = c.loop-row.invariant in
    rw length_push
    (cut_next _ _ _ _ c.next.new.self _ i.0 s.1.0 s.1.1 s.0, counted_next _ _ _ _ _ _ _ (row (goal.at.loop-row-preserved c).In-Some) i.1 c.mark_row.ensures)

pub returns : goal.returns
returns c =
    let i = c.loop-row.invariant in
    rw (← (cut_all _ _ _ _ _ c.requires.0.rows.size i.0 c.in-None.ensures.steps.1.0)) i.1
