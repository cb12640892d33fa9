-- `reaching::sweep` meets its contract: after n visits, the state is that of the first n cells. Assumes nothing.
use Rattle.reaching.proofs.Turns.{Sweeping}
use Rattle.reaching.specs.State.{state}
use Rattle.reaching.proofs.sweep.Given as goal

abbrev pub invariant-loop-n : goal.invariant-loop-n
invariant-loop-n l = Sweeping l.geometry l.tuple.0 (state l.initial.flags l.initial.log l.count) (state l.flags l.log l.entries) l.n
