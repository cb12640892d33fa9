-- `held::develop` meets its contract. The loop's invariant: the entries of the first i rows are the design's, the rest are the
-- old ones. Assumes nothing.
use Prim.Native.Nat.{◌*◌}
use lib.ListN.{length}
use Rattle.held.specs.Developed.{developed}
use Rattle.held.proofs.Filling.{Filled}
use Rattle.held.proofs.develop.Given as goal

abbrev pub invariant-loop-i : goal.invariant-loop-i
invariant-loop-i l = Filled (developed l.v l.set) l.initial.design (l.i * length l.set) l.design
