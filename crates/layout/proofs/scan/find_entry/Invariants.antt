-- `layout::scan::find_entry` meets its contract. Assumes nothing.
use Rattle.layout.proofs.Scanned.{Passed}
use Rattle.layout.proofs.scan.find_entry.Given as goal

abbrev pub invariant-loop-at : goal.invariant-loop-at
invariant-loop-at l = Passed l.design l.name l.wanted l.n l.at
