-- `rebuilding::first_incomplete` meets its contract: no tuple so far is incomplete. Assumes nothing.
use native.Mathlib.Omega.{arith}
use Rattle.rebuilding.proofs.Phases.{searching_more, searching_found, searching_all}
use Rattle.rebuilding.proofs.first_incomplete.Goals as goal

pub returns-then-not-reached : goal.returns-then-not-reached
returns-then-not-reached c =
    let r = c.reach-reached in
    searching_found c.args.layout.now.laid c.requires c.loop-t.invariant
    (omega (arith, c.loop-t-test.true, c.tuples-t-end.ensures)) _ _ _ _ r.ensures.0 r.ensures.1 c.if-not-reached.true

pub loop-t-preserved : goal.loop-t-preserved
loop-t-preserved c =
    let r = c.reach-reached in
    searching_more c.args.layout.now.laid c.requires c.loop-t.invariant
    (omega (arith, c.loop-t-test.true, c.tuples-t-end.ensures)) _ _ _ _ r.ensures.0 r.ensures.1 r.auto.flags r.auto.log
    c.if-not-reached.false

pub returns : goal.returns
returns c =
    searching_all c.args.layout.now.laid c.requires c.loop-t.invariant
    (omega (arith, c.loop-t-test.false, c.tuples-t-end.ensures))
