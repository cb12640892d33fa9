-- `reaching::lacks_only` meets its contract: no unit so far is another's and missing. Assumes nothing.
use Rattle.reaching.proofs.Members.{At}
use Rattle.reaching.proofs.Scans.{lacking}
use Rattle.checking.proofs.Scan.{Scanned}
use Rattle.reaching.proofs.lacks_only.Given as goal

abbrev pub invariant-loop-q : goal.invariant-loop-q
invariant-loop-q l = Scanned (lacking l.flags l.set) l.set.size l.q × At l.set l.line l.x l.q
