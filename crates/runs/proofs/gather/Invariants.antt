-- `runs::gather` meets its contract: after each source, the sum of the sources up to there. Assumes nothing.
use mathlib.Core.Path.{◌≡◌}
use lib.ListN.{length, take}
use Rattle.leaves.specs.Bytes.{xors, sums}
use Rattle.runs.proofs.gather.Given as goal

abbrev pub invariant-loop-start : goal.invariant-loop-start
invariant-loop-start l =
    l.room ≡ xors l.initial.room (sums l.array (take l.start-index l.starts) l.i (length l.initial.room))
