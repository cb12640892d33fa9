-- `leaves::copy_into` meets its contract. Assumes nothing.
use mathlib.Core.Path.{refl}
use Rattle.leaves.proofs.Filled.{filled_none, filled_more, filled_all}
use borrow.Author.Rules.{rules}
use Rattle.leaves.proofs.copy_into.Goals as goal

pub loop-i-init : goal.loop-i-init
loop-i-init c = filled_none _ _ c.requires

pub loop-i-preserved : goal.loop-i-preserved
loop-i-preserved c = filled_more c.loop-i.invariant (search rules) _ refl

pub returns : goal.returns
returns c = filled_all c.loop-i.invariant (search rules)
