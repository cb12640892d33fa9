-- `runs::zero_sum` meets its contract: after each block, all offsets up to there XOR to zero. Assumes nothing.
use Prim.Native.Nat.{◌-◌, ◌≤◌}
use mathlib.Core.Path.{◌≡◌}
use mathlib.Core.Bool.{true}
use Rattle.leaves.specs.Bytes.{zero_sum}
use Rattle.runs.proofs.zero_sum.Given as goal

abbrev pub invariant-loop-i : goal.invariant-loop-i
invariant-loop-i l = (l.i ≤ l.u) × (zero_sum l.array l.starts l.i ≡ true)

abbrev pub decreases-loop-i : goal.decreases-loop-i
decreases-loop-i l = l.u - l.i
