-- `geometry::beyond_limits` meets its contract. Assumes nothing.
use native.Mathlib.Omega.{arith}
use Rattle.std.proofs.lemmas.Bool.Decides.{nat_tests}
use Rattle.geometry.specs.Geometry.{beyond_limits}
use Rattle.geometry.proofs.beyond_limits.Goals as goal

pub returns-then-not-contains-2 : goal.returns-then-not-contains-2
unfolding beyond_limits
returns-then-not-contains-2 c = grind (arith, nat_tests)

pub returns-else-not-contains-2 : goal.returns-else-not-contains-2
unfolding beyond_limits
returns-else-not-contains-2 c = grind (arith, nat_tests)
