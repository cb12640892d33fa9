-- `restoring::gather_rest` meets its contract. Assumes nothing.
use Rattle.restoring.proofs.Blocks.{gathered_rest}
use Rattle.restoring.proofs.gather_rest.Goals as goal

pub returns : goal.returns
returns c = gathered_rest _ _ _ _ _ _ _ c.requires.below c.gather.ensures c.gather-2.ensures
