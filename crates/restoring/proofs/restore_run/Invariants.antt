-- `restoring::restore_run` meets its contract: after each block, the first bytes of the unit are done. Assumes nothing.
use Prim.Native.Nat.{◌*◌}
use mathlib.Core.Path.{◌≡◌}
use lib.ListN.{get_or}
use Rattle.leaves.specs.Bytes.{sums}
use Rattle.restoring.specs.Restore.{stored, rest_of}
use Rattle.restoring.specs.declared.TheConstants.{BLOCK}
use Rattle.restoring.proofs.restore_run.Given as goal

abbrev pub invariant-loop-block : goal.invariant-loop-block
invariant-loop-block l =
    l.array
    ≡ stored l.initial.array (get_or l.starts l.own 0) (sums l.initial.array (rest_of l.starts l.own) 0 (BLOCK * l.block))
