-- `array::any_high` meets its contract. Assumes nothing.
use mathlib.Core.Path.{◌∙◌}
use mathlib.Core.Bool.{false, ◌||◌}
use lib.Dec.{ltb}
use borrow.Author.Rules.{rules}
use borrow.Author.Tests.{tests}
use Rattle.std.proofs.lemmas.Iterator.{YieldsList-from_slice}
use Rattle.std.proofs.lemmas.Iterator.Consumers.{fold_from_yields_List}
use Rattle.array.proofs.High.{looked_all}
use Rattle.array.proofs.any_high.Goals as goal

pub returns : goal.returns
returns c =
    fold_from_yields_List _ (λ b m. b || ltb 1 m) false c.fold.result c.fold.ensures.ran (YieldsList-from_slice c.args.marks.now cc)
    (λ a x b q k. search (rules, tests))
    ∙ looked_all c.args.marks.now
