-- `replaying::replay` meets its contract: after each entry, the array as the steps up to there leave it. Assumes nothing.
use mathlib.Core.Path.{◌≡◌}
use Rattle.reaching.specs.State.{log_steps}
use Rattle.replaying.specs.Replay.{replayed}
use Rattle.replaying.proofs.replay.Given as goal

abbrev pub invariant-loop-entry : goal.invariant-loop-entry
invariant-loop-entry l =
    l.array ≡ replayed l.layout.geometry l.layout.design.now l.tuple.0 (log_steps l.layout.geometry l.tuple.0 l.log l.entry-index) l.initial.array
