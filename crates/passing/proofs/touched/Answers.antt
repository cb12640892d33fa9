-- `passing::touched` meets its contract: no disk of the groups so far is lost. Assumes nothing.
use Rattle.std.proofs.Common.{below_more, sym, ◌∙◌, arith}
use Rattle.counting.proofs.Laws.{any_true, none_any}
use Rattle.reaching.specs.State.{touched_of}
use Rattle.passing.proofs.Flags.{lost_among}
use Rattle.passing.proofs.touched.Goals as goal

pub returns-then-contains : goal.returns-then-contains
unfolding touched_of
returns-then-contains c =
    sym (any_true _ _ _ c.loop-l-test.true (sym (lost_among _ _ _ _ c.group_flags.ensures _ c.contains.ensures.cases) ∙ c.if-contains.true))

pub loop-l-preserved : goal.loop-l-preserved
loop-l-preserved c =
    below_more _ _ c.loop-l.invariant (sym (lost_among _ _ _ _ c.group_flags.ensures _ c.contains.ensures.cases) ∙ c.if-contains.false)

pub returns : goal.returns
unfolding touched_of
returns c = sym (none_any _ _ (λ i h. c.loop-l.invariant i (omega arith)))
