-- `printing::show` meets its contract, by what the line asks. Assumes nothing.
use mathlib.Core.Path.{sym, ◌∙◌}
use Rattle.printing.proofs.Accepted.{unread_text_lem, asked_text}
use Rattle.printing.proofs.show.Goals as goal

pub returns-in-None : goal.returns-in-None
returns-in-None c =
    unread_text_lem c.args.line.now _ _ _
    (sym c.parse.ensures ∙ c.in-None.is)
    c.put_word.ensures

pub returns-in-Some : goal.returns-in-Some
returns-in-Some c =
    asked_text c.args.line.now _ _ _ _
    (sym c.parse.ensures ∙ c.in-Some.is)
    c.show_answer.ensures
