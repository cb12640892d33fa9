-- `rebuilding::first_incomplete` meets its contract: no tuple so far is incomplete. Assumes nothing.
use Rattle.rebuilding.proofs.Phases.{Searching}
use Rattle.rebuilding.proofs.first_incomplete.Given as goal

abbrev pub invariant-loop-t : goal.invariant-loop-t
invariant-loop-t l = Searching l.layout.geometry l.layout.design.now l.lost l.flags l.log l.t
