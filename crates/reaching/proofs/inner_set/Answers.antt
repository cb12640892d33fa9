-- `reaching::inner_set` meets its contract. Assumes nothing.
use Rattle.reaching.proofs.Members.{inner_is, inner_set_in}
use Rattle.reaching.proofs.inner_set.Goals as goal

pub returns : goal.returns
returns c = (inner_is _ _ _ c.diagonal_at.ensures.0, inner_set_in _ _ c.requires.sound c.requires.cell_in _)
