-- `passing::reach` meets its contract. Assumes nothing.
use Rattle.std.proofs.Common.{ap, not}
use Rattle.reaching.proofs.Whole.{reach_left, start_room, reach_end}
use Rattle.passing.proofs.reach.Goals as goal

pub returns-then-not-touched : goal.returns-then-not-touched
returns-then-not-touched c = reach_left _ _ _ _ _ _ _ c.touched.ensures (ap not c.if-not-touched.true)

pub passes-count-requires-clause-room : goal.passes-count-requires-clause-room
passes-count-requires-clause-room c = start_room _ _ _ _ _ _ _ c.touched.ensures c.requires.reach_room _ c.start_flags.ensures

pub returns : goal.returns
returns c =
    reach_end _ _ _ _ _ _ _ c.touched.ensures c.requires.reach_room _ c.start_flags.ensures _ c.passes-count.ensures (ap not c.if-not-touched.false) _ c.all_seen-complete.ensures
