-- `numbering::parity_position` meets its contract. Assumes nothing.
use native.Mathlib.Omega.{arith}
use mathlib.Core.Path.{refl}
use Rattle.numbering.specs.Positions.{parity_position}
use Rattle.numbering.proofs.parity_position.Goals as goal

pub returns : goal.returns
unfolding parity_position
returns c = (refl, omega arith)
