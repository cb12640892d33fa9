-- `numbering::data_position` meets its contract. Assumes nothing.
use native.Mathlib.Omega.{arith}
use Rattle.numbering.proofs.Steps.{position_below, position_above}
use Rattle.numbering.proofs.data_position.Goals as goal

pub returns-then-region-parity_position : goal.returns-then-region-parity_position
returns-then-region-parity_position c = (position_below _ _ _ (omega (arith, c.parity_position.ensures.0)), omega arith)

pub returns-else-region-parity_position : goal.returns-else-region-parity_position
returns-else-region-parity_position c = (position_above _ _ _ (omega (arith, c.parity_position.ensures.0)), omega arith)
