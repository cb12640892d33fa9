-- `geometry::Geometry::sets` meets its contract. Assumes nothing.
use native.Mathlib.Omega.{arith}
use Rattle.geometry.specs.Geometry.{sets_of}
use Rattle.geometry.proofs.Laws.{sets_bound}
use Rattle.geometry.proofs.Geometry.sets.Goals as goal

pub overflow_mul-result : goal.overflow_mul-result
unfolding sets_of
overflow_mul-result c =
    rw (c.b.ensures, c.tuple_sets.ensures)
    (omega (arith, sets_bound c.args.self c.requires))

pub returns : goal.returns
unfolding sets_of
returns c = rw (c.b.ensures, c.tuple_sets.ensures)
