-- `planning::triples_of` meets its contract. Assumes nothing.
use mathlib.Core.Path.{refl}
use native.Mathlib.Omega.{arith}
use Rattle.planning.specs.Plan.{triples_of}
use Rattle.planning.proofs.Bounds.{part_triples_bound, triples_bound}
use Rattle.planning.proofs.triples_of.Goals as goal

pub overflow_mul-result : goal.overflow_mul-result
overflow_mul-result c = rw c.parts.ensures (omega (arith, part_triples_bound c.args.geometry c.requires))

pub overflow_mul-result-2 : goal.overflow_mul-result-2
unfolding triples_of
overflow_mul-result-2 c =
    rw c.parts.ensures (omega (arith, triples_bound c.args.geometry c.requires))

pub returns : goal.returns
unfolding triples_of
returns c =
    rw c.parts.ensures (refl, triples_bound c.args.geometry c.requires)
