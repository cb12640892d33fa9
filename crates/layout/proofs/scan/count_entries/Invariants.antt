-- `layout::scan::count_entries` meets its contract. Assumes nothing.
use Rattle.layout.proofs.Scanned.{Counted}
use Rattle.layout.proofs.scan.count_entries.Given as goal

abbrev pub invariant-loop-entry : goal.invariant-loop-entry
invariant-loop-entry l = Counted l.design l.name l.n l.entry-index
