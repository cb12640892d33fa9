-- `leaves::difference` meets its contract. Assumes nothing.
use mathlib.Core.Path.{◌∙◌}
use Rattle.leaves.proofs.Runs.{length_xors}
use Rattle.leaves.proofs.Filled.{filled_none, filled_difference, filled_all}
use borrow.Author.Rules.{rules}
use Rattle.leaves.proofs.difference.Goals as goal

pub loop-i-init : goal.loop-i-init
loop-i-init c = filled_none _ _ (length_xors _ _ ∙ c.requires.0)

pub loop-i-preserved : goal.loop-i-preserved
loop-i-preserved c = filled_difference _ _ c.loop-i.invariant (search rules)

pub returns : goal.returns
returns c = filled_all c.loop-i.invariant (search rules)
