-- `sets::unit_from` meets its contract. Assumes nothing.
use native.Mathlib.Omega.{arith}
use Rattle.sets.proofs.Starts.{unit_is, unit_fits}
use Rattle.sets.proofs.unit_from.Goals as goal

pub overflow_mul-result : goal.overflow_mul-result
overflow_mul-result c = let p = c.requires in omega (arith, unit_fits _ p.0 _ _ _ _ p.1 p.2 p.3 p.4)

pub overflow_add-result : goal.overflow_add-result
overflow_add-result c = let p = c.requires in omega (arith, unit_fits _ p.0 _ _ _ _ p.1 p.2 p.3 p.4)

pub overflow_add-result-2 : goal.overflow_add-result-2
overflow_add-result-2 c = let p = c.requires in omega (arith, unit_fits _ p.0 _ _ _ _ p.1 p.2 p.3 p.4)

pub returns : goal.returns
returns c = let p = c.requires in unit_is _ p.0 _ _ _ _ p.1 p.2 p.3 p.4
