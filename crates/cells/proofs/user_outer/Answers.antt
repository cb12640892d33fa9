-- `cells::user_outer` meets its contract. Assumes nothing.
use mathlib.Core.Path.{ap, ◌∙◌}
use Rattle.cells.specs.Roles.{user_outer}
use Rattle.numbering.specs.declared.Digits.{Digits}
use Rattle.cells.specs.Roles.{parity_cell}
use Rattle.cells.proofs.user_outer.Goals as goal

pub returns : goal.returns
unfolding user_outer
returns c = (
  c.parity_cell.ensures.0
      ∙ ap (λ (x : Digits). parity_cell c.args.geometry x) c.digits_of.ensures.0,
  c.parity_cell.ensures.1,
)
