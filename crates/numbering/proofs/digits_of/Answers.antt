-- `numbering::digits_of` meets its contract. Assumes nothing.
use mathlib.Core.Path.{refl}
use Rattle.numbering.specs.Numbering.{user_tuple, user_region, user_row, user_column}
use Rattle.numbering.proofs.Numbering.{digits_in}
use Rattle.numbering.proofs.digits_of.Goals as goal

pub returns : goal.returns
unfolding user_tuple user_region user_row user_column
returns c = (refl, digits_in _ _ c.requires.sound c.requires.n_bound)
