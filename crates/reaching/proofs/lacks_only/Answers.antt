-- `reaching::lacks_only` meets its contract: no unit so far is another's and missing. Assumes nothing.
use mathlib.Core.Path.{ap}
use mathlib.Core.Bool.{not}
use Rattle.reaching.proofs.Members.{at_next, at_is, unit_low}
use Rattle.reaching.proofs.Scans.{units_more, units_lack, units_all}
use Rattle.reaching.proofs.lacks_only.Goals as goal

pub bounds-flags-at : goal.bounds-flags-at
bounds-flags-at c = unit_low _ _ _ _ c.loop-q.invariant.1 _ c.requires c.loop-q-test.true

pub returns-then-not-q-set : goal.returns-then-not-q-set
returns-then-not-q-set c =
    units_lack c.args.flags.now _ _ _ (at_is _ _ _ _ c.loop-q.invariant.1) c.loop-q-test.true (ap not c.if-not-q-set.true)

pub loop-q-preserved : goal.loop-q-preserved
loop-q-preserved c =
    let i = c.loop-q.invariant in (
      units_more c.args.flags.now _ _ _ (at_is _ _ _ _ i.1) i.0 c.loop-q-test.true (ap not c.if-not-q-set.false),
      at_next _ _ _ _ i.1 _ c.turned-x-in-loop-q.ensures.0,
    )

pub returns : goal.returns
returns c = units_all c.args.flags.now _ _ c.loop-q.invariant.0 c.loop-q-test.false
