-- `layout::row_start` meets its contract. Assumes nothing.
use native.Mathlib.Omega.{arith}
use Rattle.layout.proofs.Found.{row_within}
use Rattle.layout.proofs.row_start.Goals as goal

pub overflow_mul-result : goal.overflow_mul-result
overflow_mul-result c = omega (arith, row_within _ c.requires.sound _ c.requires.tuple_bound)

pub returns : goal.returns
returns c = omega (arith, row_within _ c.requires.sound _ c.requires.tuple_bound)
