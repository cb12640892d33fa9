-- `lines::count_digits` meets its contract: the chain gives the digits at the front. Assumes nothing.
use Rattle.std.proofs.Common.{length, rules, tests, ap, ◌∙◌}
use Rattle.std.proofs.lemmas.Iterator.{YieldsList-from_slice, YieldsList-from_take}
use Rattle.std.proofs.lemmas.Iterator.Search.{YieldsList-from_take_while}
use Rattle.std.proofs.lemmas.Iterator.Consumers.{YieldsList-at, count_from_yields_List}
use Rattle.std.specs.Char.{is_ascii_digit}
use Rattle.lines.proofs.Fronts.{front_taken}
use Rattle.lines.proofs.count_digits.Goals as goal

pub returns : goal.returns
returns c =
    count_from_yields_List c.take_while.result _ c.count.ensures.ran
    (YieldsList-from_take_while _ is_ascii_digit
    (YieldsList-at c.take_while.ensures.source
    (YieldsList-from_take _ (YieldsList-from_slice c.args.line.now (cc)) c.take.ensures.count))
    c.take_while.ensures.closure c.take_while.ensures.done (λ x b q k. search (rules, tests)))
    ∙ ap length (front_taken _ c.args.line.now)
