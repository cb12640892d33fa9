-- `runs::zero_block` meets its contract. Assumes nothing.
use mathlib.Core.Path.{sym}
use Rattle.runs.specs.declared.TheConstants.{BLOCK}
use Rattle.leaves.proofs.Runs.{front_zeros, at_front_zeros}
use Rattle.runs.proofs.Gathered.{zero_gathered}
use Rattle.runs.proofs.zero_block.Goals as goal

pub returns : goal.returns
returns c =
    zero_gathered _ _ _ _ _ _ (sym (front_zeros BLOCK _ c.requires.0)) (at_front_zeros BLOCK c.args.n) c.gather.ensures _ c.zero.ensures
