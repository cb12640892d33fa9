-- `numbering::data_number` meets its contract. Assumes nothing.
use native.Mathlib.Omega.{arith}
use Rattle.numbering.proofs.Steps.{number_below, number_above}
use Rattle.numbering.proofs.data_number.Goals as goal

pub returns-then-position-parity_position : goal.returns-then-position-parity_position
returns-then-position-parity_position c = (number_below _ _ _ (omega (arith, c.parity_position.ensures.0)), omega arith)

pub returns-else-position-parity_position : goal.returns-else-position-parity_position
returns-else-position-parity_position c = (number_above _ _ _ (omega (arith, c.parity_position.ensures.0)), omega arith)
