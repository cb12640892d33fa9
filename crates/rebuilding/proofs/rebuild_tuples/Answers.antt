-- `rebuilding::rebuild_tuples` meets its contract: the tuples so far are rebuilt. Assumes nothing.
use mathlib.Core.Path.{sym}
use native.Mathlib.Omega.{arith}
use lib.Seq.{length-take-le}
use Rattle.geometry.proofs.Laws.{tuples_bound}
use Rattle.rebuilding.proofs.Phases.{rooms_made, restoring_none, restoring_room, restoring_log, restoring_few, restoring_more, restoring_all}
use Rattle.rebuilding.proofs.rebuild_tuples.Goals as goal

pub loop-t-init : goal.loop-t-init
loop-t-init c =
    restoring_none _ _ _ _ _ _ c.requires.array_len (rooms_made _ _ c.tuple_cells-cells.ensures.0 c.tuple_cells-cells.ensures.1)

pub slice_bounds-replay-end : goal.slice_bounds-replay-end
slice_bounds-replay-end c =
    let r = c.reach-reached in
    restoring_room c.args.layout.now.laid c.requires.lost_len c.loop-t.invariant
    (omega (arith, c.loop-t-test.true, c.tuples-t-end.ensures)) _ _ _ _ r.ensures.0 r.ensures.1

pub slice_bounds-replay-end-in-loop-t : goal.slice_bounds-replay-end-in-loop-t
slice_bounds-replay-end-in-loop-t c =
    let r = c.reach-reached in
    sym (length-take-le _ _ (restoring_room c.args.layout.now.laid c.requires.lost_len c.loop-t.invariant (omega (arith, c.loop-t-test.true, c.tuples-t-end.ensures)) _ _ _ _ r.ensures.0 r.ensures.1))

pub replay-requires-clause-log_in : goal.replay-requires-clause-log_in
replay-requires-clause-log_in c =
    let r = c.reach-reached in
    restoring_log c.args.layout.now.laid c.requires.lost_len c.loop-t.invariant
    (omega (arith, c.loop-t-test.true, c.tuples-t-end.ensures)) _ _ _ _ r.ensures.0 r.ensures.1

pub overflow_cast-count : goal.overflow_cast-count
overflow_cast-count c =
    let r = c.reach-reached in
    omega
    (arith, restoring_few c.args.layout.now.laid c.requires.lost_len c.loop-t.invariant (omega (arith, c.loop-t-test.true, c.tuples-t-end.ensures)) _ _ _ _ r.ensures.0 r.ensures.1 r.auto.log)

pub overflow_add-count : goal.overflow_add-count
overflow_add-count c =
    let r = c.reach-reached in
    let i = c.loop-t.invariant in
    omega
    (arith, i.few, i.most, tuples_bound _ c.args.layout.now.laid.sound, restoring_few c.args.layout.now.laid c.requires.lost_len i (omega (arith, c.loop-t-test.true, c.tuples-t-end.ensures)) _ _ _ _ r.ensures.0 r.ensures.1 r.auto.log)

pub loop-t-preserved : goal.loop-t-preserved
loop-t-preserved c =
    let r = c.reach-reached in
    let s = c.replay in
    restoring_more c.args.layout.now.laid c.requires.lost_len c.loop-t.invariant
    (omega (arith, c.loop-t-test.true, c.tuples-t-end.ensures)) _ _ _ _ r.ensures.0 r.ensures.1 r.auto.flags r.auto.log _
    s.auto.array s.ensures

pub returns : goal.returns
returns c =
    restoring_all c.args.layout.now.laid c.requires.lost_len c.loop-t.invariant
    (omega (arith, c.loop-t-test.false, c.tuples-t-end.ensures))
