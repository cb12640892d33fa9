-- `geometry::Geometry::tuple_sets` meets its contract. Assumes nothing.
use borrow.Author.Rules.{rules}
use Rattle.geometry.specs.Geometry.{tuple_sets_of}
use Rattle.geometry.proofs.Geometry.tuple_sets.Goals as goal

pub returns : goal.returns
unfolding tuple_sets_of
returns c = search rules
