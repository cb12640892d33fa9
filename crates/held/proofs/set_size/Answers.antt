-- `held::set_size` meets its contract. Assumes nothing.
use Rattle.std.proofs.Common.{rules, tests}
use Rattle.held.proofs.Lookup.{size_is}
use Rattle.held.proofs.set_size.Goals as goal

pub returns : goal.returns
returns c = size_is _ _ c.set_of.result c.set_of.ensures (search (rules, tests))
