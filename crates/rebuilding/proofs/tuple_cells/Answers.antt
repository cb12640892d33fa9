-- `rebuilding::tuple_cells` meets its contract. Assumes nothing.
use mathlib.Core.Path.{refl}
use Rattle.reaching.specs.Reach.{tuple_cells_of}
use Rattle.reaching.proofs.Visits.{cells_few}
use Rattle.rebuilding.proofs.tuple_cells.Goals as goal

pub returns : goal.returns
unfolding tuple_cells_of
returns c = (refl, cells_few _ c.requires)
