-- `geometry::Geometry::user_units` meets its contract. Assumes nothing.
use native.Mathlib.Omega.{arith}
use Rattle.geometry.specs.Geometry.{user_units_of}
use Rattle.geometry.proofs.Laws.{rows_bound, user_units_bound}
use Rattle.geometry.proofs.Geometry.user_units.Goals as goal

pub overflow_mul-result-2 : goal.overflow_mul-result-2
overflow_mul-result-2 c =
    rw c.b.ensures
    (omega (arith, rows_bound c.args.self c.requires))

pub overflow_mul-result-3 : goal.overflow_mul-result-3
unfolding user_units_of
overflow_mul-result-3 c =
    rw c.b.ensures
    (omega (arith, user_units_bound c.args.self c.requires))

pub returns : goal.returns
unfolding user_units_of
returns c = rw c.b.ensures
