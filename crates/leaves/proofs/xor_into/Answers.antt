-- `leaves::xor_into` meets its contract. Assumes nothing.
use Rattle.leaves.proofs.Runs.{length_xors}
use Rattle.leaves.proofs.Filled.{filled_none, filled_xor, filled_rest, drop_xors}
use Rattle.leaves.proofs.xor_into.Goals as goal

pub loop-i-init : goal.loop-i-init
loop-i-init c = filled_none _ _ (length_xors _ _)

pub loop-i-preserved : goal.loop-i-preserved
loop-i-preserved c = filled_xor _ c.loop-i.invariant c.loop-i-test.true c.requires

pub returns : goal.returns
returns c = filled_rest c.loop-i.invariant (drop_xors _ _ _ c.loop-i-test.false)
