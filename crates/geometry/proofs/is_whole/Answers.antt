-- `geometry::is_whole` meets its contract. Assumes nothing.
use native.Mathlib.Omega.{arith}
use borrow.Author.Tests.{eq-eqb, ne_eqb}
use Rattle.geometry.specs.Geometry.{whole}
use Rattle.geometry.proofs.Laws.{pair_bound, r_times, b_times}
use Rattle.geometry.proofs.is_whole.Goals as goal

pub overflow_mul-r_of : goal.overflow_mul-r_of
overflow_mul-r_of c = rw c.r_of.ensures (omega (arith, r_times c.args.v c.args.k))

pub overflow_mul-result-then-r_of-k : goal.overflow_mul-result-then-r_of-k
overflow_mul-result-then-r_of-k c =
    rw c.b_of.ensures
    (omega (arith, b_times c.args.v c.args.k, pair_bound c.args.v c.args.k c.requires))

pub returns-then-r_of-k : goal.returns-then-r_of-k
unfolding whole
returns-then-r_of-k c = rw (← c.r_of.ensures, ← c.b_of.ensures, eq-eqb _ _ c.if-r_of-k.true)

pub returns-else-r_of-k : goal.returns-else-r_of-k
unfolding whole
returns-else-r_of-k c = rw (← c.r_of.ensures, ne_eqb _ _ c.if-r_of-k.false)
