-- `layout::Layout::role_at` meets its contract. Assumes nothing.
use mathlib.Core.Path.{ap, ◌∙◌}
use Rattle.cells.specs.Roles.{role_of}
use Rattle.layout.specs.Places.{role_at}
use Rattle.layout.proofs.Layout.role_at.Goals as goal

pub returns : goal.returns
unfolding role_at
returns c = c.role_of.ensures ∙ ap (role_of c.args.self.now.geometry) c.cell_at.ensures.0
