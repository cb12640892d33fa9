-- `lines::read_number_and_space` meets its contract. Assumes nothing.
use Rattle.std.proofs.Common.{sym, ap, ◌∙◌}
use Rattle.decimals.specs.Decimal.{decimal}
use Rattle.lines.specs.Line.{spaced}
use Rattle.lines.proofs.Fronts.{no_front}
use Rattle.lines.proofs.Answers.{no_space, with_space, past_space}
use Rattle.lines.proofs.read_number_and_space.Goals as goal

pub returns-in_err-number : goal.returns-in_err-number
returns-in_err-number c = rw c.from_residual.ensures (no_front spaced c.args.line.now c.in_err-number.ensures)

pub returns-in_err-strip_prefix : goal.returns-in_err-strip_prefix
returns-in_err-strip_prefix c =
    rw c.from_residual-in_err-strip_prefix.ensures
    (no_space c.args.line.now c.in_ok-number.rest.now c.in_ok-number.ensures.2 c.in_err-strip_prefix.ensures.cases)

pub returns : goal.returns
returns c =
    let n = c.in_ok-number.ensures in
    let s = c.in_ok-strip_prefix.ensures.cases in
    let e = with_space c.args.line.now c.in_ok-number.rest.now n.2 s.0 in
    (λ z. n.0 (sym e ∙ z), n.1 ∙ ap decimal (sym e), s.1 ∙ past_space c.args.line.now _ n.2 s.0)
