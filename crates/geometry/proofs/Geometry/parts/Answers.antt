-- `geometry::Geometry::parts` meets its contract. Assumes nothing.
use borrow.Author.Rules.{rules}
use Rattle.geometry.specs.Geometry.{parts_of}
use Rattle.geometry.proofs.Geometry.parts.Goals as goal

pub returns : goal.returns
unfolding parts_of
returns c = search rules
