-- `fourfold::add_four` meets its contract: after each block, what is done is the difference up to there. Assumes nothing.
use Prim.Native.Nat.{◌*◌}
use mathlib.Core.Path.{◌≡◌}
use lib.ListN.{get_or, take}
use Rattle.leaves.specs.Bytes.{add_all, difference_at}
use Rattle.fourfold.specs.declared.TheConstants.{BLOCK}
use Rattle.fourfold.proofs.add_four.Given as goal

abbrev pub invariant-loop-b : goal.invariant-loop-b
invariant-loop-b l =
    l.array
    ≡ add_all l.initial.array l.starts (take (BLOCK * l.b) (difference_at l.initial.array (get_or l.starts 0 0) l.new))
