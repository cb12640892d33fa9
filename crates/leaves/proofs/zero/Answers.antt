-- `leaves::zero` meets its contract. Assumes nothing.
use borrow.Author.Rules.{rules}
use Rattle.leaves.proofs.Zeros.{zero_fold}
use Rattle.leaves.proofs.zero.Goals as goal

pub returns : goal.returns
returns c = search (rules, zero_fold)
