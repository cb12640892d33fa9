-- `passing::all_seen` meets its contract. Assumes nothing.
use Rattle.passing.proofs.Flags.{each_seen}
use Rattle.passing.proofs.all_seen.Goals as goal

pub returns : goal.returns
returns c = each_seen _ _ c.contains.ensures.cases
