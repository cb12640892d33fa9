-- `geometry::Geometry::tuples` meets its contract. Assumes nothing.
use borrow.Author.Rules.{rules}
use Rattle.geometry.specs.Geometry.{tuples_of}
use Rattle.geometry.proofs.Geometry.tuples.Goals as goal

pub returns : goal.returns
unfolding tuples_of
returns c = search rules
