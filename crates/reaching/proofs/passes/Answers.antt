-- `reaching::passes` meets its contract: what is left to do is what was to do, and each turn leaves fewer cells missing. Assumes nothing.
use Rattle.reaching.proofs.Turns.{going_start, going_less, going_again, going_end}
use Rattle.reaching.proofs.passes.Goals as goal

pub loop-count-init : goal.loop-count-init
loop-count-init c = going_start _ _ _ c.requires.room

pub returns-then-after-count : goal.returns-then-after-count
returns-then-after-count c = going_end _ _ _ _ _ c.loop-count.invariant c.sweep-after.ensures c.if-after-count.true

pub loop-count-smaller : goal.loop-count-smaller
loop-count-smaller c = going_less _ _ _ _ _ c.loop-count.invariant c.sweep-after.ensures c.if-after-count.false

pub loop-count-preserved : goal.loop-count-preserved
loop-count-preserved c = going_again _ _ _ _ _ c.loop-count.invariant c.sweep-after.ensures c.if-after-count.false
