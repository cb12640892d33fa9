-- `restoring::restore_run` meets its contract: after each block, the first bytes of the unit are done. Assumes nothing.
use Prim.Native.Nat.{◌-◌, ◌*◌, ◌%◌}
use mathlib.Core.Path.{◌≡◌, refl}
use Rattle.restoring.specs.declared.TheConstants.{BLOCK}
use native.Mathlib.Omega.{arith}
use Rattle.restoring.proofs.Blocks.{restoring_none, restoring_more, restoring_all}
use Rattle.restoring.proofs.restore_run.Goals as goal

pub loop-block-init : goal.loop-block-init
loop-block-init c = restoring_none _ c.args.starts.now c.args.own

pub loop-block-preserved : goal.loop-block-preserved
loop-block-preserved c =
    restoring_more _ _ _ c.args.u _ _ _ c.requires (omega arith) (omega arith) c.loop-block.invariant c.restore_block.ensures

pub returns-then-rest-ne0 : goal.returns-then-rest-ne0
returns-then-rest-ne0 c =
    let e : c.args.u - c.args.u % BLOCK ≡ BLOCK * c.loop-block.block = omega arith in
    restoring_all _ c.args.starts.now c.args.own refl
    (restoring_more _ _ _ c.args.u _ _ _ c.requires (omega arith) (omega arith) c.loop-block.invariant
    (rw e at c.restore_block-then-rest-ne0.ensures))

pub returns-else-rest-ne0 : goal.returns-else-rest-ne0
returns-else-rest-ne0 c = restoring_all _ c.args.starts.now c.args.own (omega arith) c.loop-block.invariant
