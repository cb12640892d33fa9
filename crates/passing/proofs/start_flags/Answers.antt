-- `passing::start_flags` meets its contract: the regions so far are filled. Assumes nothing.
use Rattle.std.proofs.Common.{ℕ, ◌<◌, ◌*◌, arith}
use Rattle.reaching.proofs.Fills.{region_end}
use Rattle.reaching.specs.State.{start_flag}
use Rattle.passing.proofs.Flags.{part_more, region_at, tuple_filled}
use Rattle.passing.proofs.start_flags.Goals as goal

pub slice_bounds-fill_region-end : goal.slice_bounds-fill_region-end
slice_bounds-fill_region-end c = omega (arith, region_end c.args.layout.now.geometry _ c.loop-l-test.true)

pub loop-l-preserved : goal.loop-l-preserved
loop-l-preserved c =
    let G = c.args.layout.now.geometry in
    part_more (start_flag G c.args.layout.now.design.now c.args.lost.now c.args.tuple.0) _ _ _ _ _ (omega (arith, region_end G _ c.loop-l-test.true)) (omega arith) c.loop-l.invariant
    (λ (n : ℕ) (l : n < G.g * G.g). region_at G _ c.args.lost.now _ _ n c.args.layout.now.laid.sound l _ c.group_flags-disks.ensures _ (c.fill_region.ensures n (omega arith)))

pub returns : goal.returns
returns c = tuple_filled _ _ _ _ _ _ _ (omega arith) (omega arith) (omega arith) c.loop-l.invariant
