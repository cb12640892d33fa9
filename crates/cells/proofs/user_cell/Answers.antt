-- `cells::user_cell` meets its contract. Assumes nothing.
use mathlib.Core.Path.{ap, ◌∙◌}
use Rattle.cells.specs.Roles.{user_cell}
use Rattle.numbering.specs.declared.Digits.{Digits}
use Rattle.cells.specs.Roles.{data_cell}
use Rattle.cells.proofs.user_cell.Goals as goal

pub returns : goal.returns
unfolding user_cell
returns c = (
  c.data_cell.ensures.0
      ∙ ap (λ (x : Digits). data_cell c.args.geometry x) c.digits_of.ensures.0,
  c.data_cell.ensures.1,
)
