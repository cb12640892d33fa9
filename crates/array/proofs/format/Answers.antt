-- `array::format` meets its contract. Assumes nothing.
use mathlib.Core.Path.{sym, ap, ◌∙◌}
use Rattle.array.proofs.Formatting.{format_refused, format_goes}
use Rattle.array.proofs.format.Goals as goal
use Rattle.refusal.proofs.Same.{passed_on}

pub returns : goal.returns
returns c =
    let a = c.args in
    format_goes _ _ a.array.now a.marks.now _ _
    (sym c.in_ok-check_array.ensures)
    c.clear.ensures c.clear-2.ensures
