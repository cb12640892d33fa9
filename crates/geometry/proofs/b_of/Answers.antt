-- `geometry::b_of` meets its contract. Assumes nothing.
use borrow.Author.Rules.{rules}
use Rattle.geometry.specs.Geometry.{b_of}
use Rattle.geometry.proofs.b_of.Goals as goal

pub returns : goal.returns
unfolding b_of
returns c = search rules
