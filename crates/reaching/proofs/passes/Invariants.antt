-- `reaching::passes` meets its contract: what is left to do is what was to do, and each turn leaves fewer cells missing. Assumes nothing.
use Rattle.reaching.proofs.Turns.{Going}
use Rattle.reaching.specs.State.{state, missing}
use Rattle.reaching.proofs.passes.Given as goal

abbrev pub invariant-loop-count : goal.invariant-loop-count
invariant-loop-count l = Going l.geometry l.tuple.0 (state l.initial.flags l.initial.log 0) (state l.flags l.log l.count)

abbrev pub decreases-loop-count : goal.decreases-loop-count
decreases-loop-count l = missing l.flags
