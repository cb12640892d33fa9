-- `geometry::r_of` meets its contract. Assumes nothing.
use borrow.Author.Rules.{rules}
use Rattle.geometry.specs.Geometry.{r_of}
use Rattle.geometry.proofs.r_of.Goals as goal

pub returns : goal.returns
unfolding r_of
returns c = search rules
