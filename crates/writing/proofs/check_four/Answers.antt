-- `writing::check_four` meets its contract: each return by the law of its case. Assumes nothing.
use mathlib.Core.Path.{sym, ◌∙◌}
use Rattle.writing.proofs.Twelve.{user_lost, outer_lost, inner_lost, both_lost, none_lost}
use Rattle.writing.proofs.check_four.Goals as goal

pub returns-then-is_lost : goal.returns-then-is_lost
returns-then-is_lost c =
    let a = c.args in
    user_lost a.geometry a.marks.now a.four (sym c.is_lost.ensures ∙ c.if-is_lost.true)

pub returns-then-is_lost-2 : goal.returns-then-is_lost-2
returns-then-is_lost-2 c =
    let a = c.args in
    outer_lost a.geometry a.marks.now a.four
    (sym c.is_lost.ensures ∙ c.if-is_lost.false)
    (sym c.is_lost-2.ensures ∙ c.if-is_lost-2.true)

pub returns-then-is_lost-3 : goal.returns-then-is_lost-3
returns-then-is_lost-3 c =
    let a = c.args in
    inner_lost a.geometry a.marks.now a.four
    (sym c.is_lost.ensures ∙ c.if-is_lost.false)
    (sym c.is_lost-2.ensures ∙ c.if-is_lost-2.false)
    (sym c.is_lost-3.ensures ∙ c.if-is_lost-3.true)

pub returns-then-is_lost-4 : goal.returns-then-is_lost-4
returns-then-is_lost-4 c =
    let a = c.args in
    both_lost a.geometry a.marks.now a.four
    (sym c.is_lost.ensures ∙ c.if-is_lost.false)
    (sym c.is_lost-2.ensures ∙ c.if-is_lost-2.false)
    (sym c.is_lost-3.ensures ∙ c.if-is_lost-3.false)
    (sym c.is_lost-4.ensures ∙ c.if-is_lost-4.true)

pub returns : goal.returns
returns c =
    let a = c.args in
    none_lost a.geometry a.marks.now a.four
    (sym c.is_lost.ensures ∙ c.if-is_lost.false)
    (sym c.is_lost-2.ensures ∙ c.if-is_lost-2.false)
    (sym c.is_lost-3.ensures ∙ c.if-is_lost-3.false)
    (sym c.is_lost-4.ensures ∙ c.if-is_lost-4.false)
