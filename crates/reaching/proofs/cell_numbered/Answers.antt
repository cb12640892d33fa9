-- `reaching::cell_numbered` meets its contract. Assumes nothing.
use Rattle.reaching.proofs.Numbers.{cell_in}
use Rattle.reaching.specs.Reach.{cell_numbered}
use mathlib.Core.Path.{refl}
use Rattle.reaching.proofs.cell_numbered.Goals as goal

pub returns : goal.returns
unfolding cell_numbered
returns c = (refl, cell_in _ c.requires.sound _ c.requires.tuple_bound.0 _ c.requires.tuple_bound.1)
