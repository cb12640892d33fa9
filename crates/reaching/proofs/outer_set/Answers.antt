-- `reaching::outer_set` meets its contract. Assumes nothing.
use Rattle.reaching.proofs.Members.{outer_is, outer_set_in}
use Rattle.reaching.proofs.outer_set.Goals as goal

pub returns : goal.returns
returns c = (outer_is _ _ _ c.label_at.ensures.0, outer_set_in _ _ c.requires.sound c.requires.cell_in _ c.label_at.ensures.1)
