-- `row_bad`: a row that does not ascend is bad, and in any other the last group decides. Assumes nothing.
use Rattle.std.proofs.Common.{ltb, sym, rules, tests}
use Rattle.std.proofs.lemmas.List.Sorted.{answers_always}
use Rattle.checking.proofs.Ascending.{AscendsAnswer, falls_bad, last_decides}
use Rattle.checking.proofs.rows.row_bad.Goals as goal
use Rattle.checking.proofs.rows.row_bad.Goals.{After-is_sorted_by}

ascends : (c : After-is_sorted_by) → AscendsAnswer c.args.row.now c.is_sorted_by.result
ascends c = c.is_sorted_by.ensures.cases ltb (answers_always _ _ _ (λ f a r g k. search (rules, tests)))

pub returns-then-not-is_sorted_by : goal.returns-then-not-is_sorted_by
returns-then-not-is_sorted_by c =
    rw c.if-not-is_sorted_by.true
    (sym (falls_bad _ _ _ (ascends (goal.at.returns-then-not-is_sorted_by c).After-is_sorted_by) c.if-not-is_sorted_by.true))

pub returns-else-not-is_sorted_by : goal.returns-else-not-is_sorted_by
returns-else-not-is_sorted_by c =
    last_decides _ _ _ c.last.result _ (ascends (goal.at.returns-else-not-is_sorted_by c).After-is_sorted_by)
    c.if-not-is_sorted_by.false c.last.ensures.item.3 (search (rules, tests))
