-- `restoring::restore_block` meets its contract. Assumes nothing.
use mathlib.Core.Path.{sym}
use Rattle.leaves.proofs.Runs.{front_zeros, at_front_zeros}
use Rattle.restoring.proofs.Blocks.{block_stored}
use Rattle.restoring.specs.declared.TheConstants.{BLOCK}
use Rattle.restoring.proofs.restore_block.Goals as goal

pub returns : goal.returns
returns c =
    block_stored _ _ _ _ _ _ _ _ (sym (front_zeros BLOCK _ c.requires.0)) (at_front_zeros BLOCK c.args.n)
    c.gather_rest.ensures c.copy_into.ensures
