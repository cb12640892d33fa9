-- `geometry::sizes_allowed` meets its contract. Assumes nothing.
use native.Mathlib.Omega.{arith}
use Rattle.std.proofs.lemmas.Bool.Decides.{nat_tests}
use Rattle.geometry.specs.Geometry.{sizes_allowed}
use Rattle.geometry.proofs.sizes_allowed.Goals as goal

pub returns-then-contains-2 : goal.returns-then-contains-2
unfolding sizes_allowed
returns-then-contains-2 c = grind (arith, nat_tests)

pub returns-else-contains-2 : goal.returns-else-contains-2
unfolding sizes_allowed
returns-else-contains-2 c = grind (arith, nat_tests)
