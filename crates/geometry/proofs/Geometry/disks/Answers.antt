-- `geometry::Geometry::disks` meets its contract. Assumes nothing.
use borrow.Author.Rules.{rules}
use Rattle.geometry.specs.Geometry.{disks_of}
use Rattle.geometry.proofs.Geometry.disks.Goals as goal

pub returns : goal.returns
unfolding disks_of
returns c = search rules
