-- `geometry::Geometry::units` meets its contract. Assumes nothing.
use Rattle.geometry.specs.Geometry.{units_of}
use Rattle.geometry.proofs.Geometry.units.Goals as goal

pub returns : goal.returns
unfolding units_of
returns c = rw c.r.ensures
