-- `fourfold::add_four` meets its contract: after each block, what is done is the difference up to there. Assumes nothing.
use Prim.Native.Nat.{ℕ, ◌*◌, ◌/◌, ◌<◌}
use mathlib.Core.Path.{◌≡◌, refl, ap, ◌∙◌}
use mathlib.Core.List.{List, []}
use native.Mathlib.Omega.{arith}
use lib.ListN.{length, get_or, drop}
use Rattle.runs.proofs.Writes.{wrote_none, wrote_more, wrote_all}
use Rattle.fourfold.specs.declared.TheConstants.{BLOCK}
use Rattle.fourfold.proofs.Blocks.{block_is, rest_is}
use Rattle.fourfold.proofs.add_four.Goals as goal

pub loop-b-init : goal.loop-b-init
loop-b-init c = wrote_none _ c.args.starts c.args.new.now

pub loop-b-preserved : goal.loop-b-preserved
loop-b-preserved c =
    let h : c.loop-b.b < length c.args.new.now / BLOCK = omega (arith, c.as_chunks.ensures.front_len) in
    let e = ap (λ (l : List (List ℕ)). get_or l c.loop-b.b []) c.as_chunks.ensures.front ∙ block_is BLOCK _ _ _ h in
    wrote_more _ c.args.starts c.args.new.now _ _ _ _ _ c.requires.0 c.requires.1 refl (omega arith) (omega arith) e
    c.loop-b.invariant c.add_block.ensures

pub returns : goal.returns
returns c =
    let front = c.as_chunks.ensures.front_len in
    let back = c.as_chunks.ensures.back_len in
    let i : length c.args.new.now / BLOCK * BLOCK ≡ BLOCK * c.loop-b.b = omega (arith, front) in
    let e = c.as_chunks.ensures.back ∙ ap (λ (n : ℕ). drop n c.args.new.now) i in
    wrote_all _ c.args.starts c.args.new.now c.requires.0
    (wrote_more _ c.args.starts c.args.new.now c.as_chunks.result.1.now _ _ _ _ c.requires.0 c.requires.1
    (omega (arith, front, back)) (omega (arith, front, back)) (omega arith)
    (rest_is (BLOCK * c.loop-b.b) c.args.new.now c.as_chunks.result.1.now e) c.loop-b.invariant c.add_block-2.ensures)
