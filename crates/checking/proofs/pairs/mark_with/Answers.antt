-- `mark_with`: the pairs of the group at position l with those that were passed behind it are counted. Assumes nothing.
use Rattle.std.proofs.Common.{◌≡◌, ℕ, ◌+◌, ◌*◌, ◌<◌, get_or, length, add-zero, add_assoc, length-take, length-drop, arith}
use Rattle.std.proofs.lemmas.Grind.{common_steps}
use Rattle.checking.proofs.Marks.{marked_to_none, marked_to_within, marked_to_next, marked_to_all}
use Rattle.checking.proofs.pairs.mark_with.Goals as goal
use Rattle.checking.proofs.pairs.mark_with.Goals.{After-from-in-loop-c}

pub loop-c-init : goal.loop-c-init
loop-c-init c = rw add-zero (marked_to_none _ _ _ _ _ c.requires.0 c.requires.1 c.from.ensures)

-- the group that comes stands behind position l
behind : (c : After-from-in-loop-c) → c.from-in-loop-c.result ≡ get_or c.args.row.now (c.args.l + 1 + c.loop-c.c-index) 0
behind c = grind (arith, common_steps)

inside : (c : After-from-in-loop-c) → c.args.l + 1 + c.loop-c.c-index < length c.args.row.now
inside c = omega (arith, length-take {A = ℕ}, length-drop {A = ℕ})

-- the pair's number is within the table
within : (c : After-from-in-loop-c) → c.from.result * c.args.v + c.from-in-loop-c.result < length c.loop-c.table
within c = marked_to_within _ _ _ _ _ _ _ _ c.loop-c.invariant (inside c) (behind c)

pub bounds-table-p : goal.bounds-table-p
bounds-table-p c = within (goal.at.bounds-table-p c).After-from-in-loop-c

pub bounds-table-p-in-loop-c : goal.bounds-table-p-in-loop-c
bounds-table-p-in-loop-c c = within (goal.at.bounds-table-p-in-loop-c c).After-from-in-loop-c

pub loop-c-preserved : goal.loop-c-preserved
loop-c-preserved c =
    let h = (goal.at.loop-c-preserved c).After-from-in-loop-c in
    rw (← (add_assoc (c.args.l + 1) c.loop-c.c-index 1))
    (marked_to_next _ _ _ _ _ _ _ _ c.loop-c.invariant (inside h) (behind h) _ c.one_more.ensures)

pub returns : goal.returns
returns c = marked_to_all _ _ _ _ _ _ _ c.loop-c.invariant (omega (arith, length-take {A = ℕ}, length-drop {A = ℕ}))
