-- `rebuilding::lost_disks` meets its contract: so many of the flags so far are set. Assumes nothing.
use mathlib.Core.Path.{◌≡◌}
use lib.ListN.{take}
use Rattle.std.specs.Prelude.{count_by}
use Rattle.rebuilding.proofs.lost_disks.Given as goal

abbrev pub invariant-loop-is_lost : goal.invariant-loop-is_lost
invariant-loop-is_lost l = l.n ≡ count_by (λ x. x) (take l.is_lost-index l.lost)
