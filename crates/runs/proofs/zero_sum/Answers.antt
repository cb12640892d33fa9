-- `runs::zero_sum` meets its contract: after each block, all offsets up to there XOR to zero. Assumes nothing.
use Prim.Native.Nat.{◌+◌}
use mathlib.Core.Path.{refl, sym, ◌∙◌}
use native.Mathlib.Omega.{arith}
use Rattle.leaves.proofs.Zeros.{zero_none, zero_fails}
use Rattle.runs.proofs.Gathered.{zero_sum_more}
use Rattle.runs.specs.declared.TheConstants.{BLOCK}
use Rattle.runs.proofs.zero_sum.Goals as goal

pub loop-i-init : goal.loop-i-init
loop-i-init c = (omega arith, zero_none _)

pub returns-then-not-zero_block : goal.returns-then-not-zero_block
returns-then-not-zero_block c =
    let e = sym c.if-not-zero_block.true ∙ c.zero_block.ensures ∙ zero_sum_more _ _ _ _ _ refl c.loop-i.invariant.1 in
    sym (zero_fails _ (c.loop-i.i + BLOCK) c.args.u (omega arith) (sym e))

pub loop-i-preserved : goal.loop-i-preserved
loop-i-preserved c =
    let e = sym c.if-not-zero_block.false ∙ c.zero_block.ensures ∙ zero_sum_more _ _ _ _ _ refl c.loop-i.invariant.1 in
    (omega arith, sym e)

pub returns : goal.returns
returns c = c.zero_block-2.ensures ∙ zero_sum_more _ _ _ _ _ (omega arith) c.loop-i.invariant.1
