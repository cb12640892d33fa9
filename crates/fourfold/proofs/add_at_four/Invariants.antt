-- `fourfold::add_at_four` meets its contract: after each start, the bytes are added at the starts up to there. Assumes nothing.
use mathlib.Core.Path.{◌≡◌}
use lib.ListN.{take}
use Rattle.leaves.specs.Bytes.{add_all}
use Rattle.leaves.proofs.Runs.{further}
use Rattle.fourfold.proofs.add_at_four.Given as goal

abbrev pub invariant-loop-start : goal.invariant-loop-start
invariant-loop-start l = l.array ≡ add_all l.initial.array (further l.i (take l.start-index l.start-items)) l.e
