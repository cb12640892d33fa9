-- `lines::read_number` meets its contract. Assumes nothing.
use Rattle.std.proofs.Common.{◌≡◌, rules, tests, ap, ◌∙◌}
use native.Mathlib.Omega.{arith}
use Rattle.decimals.specs.Decimal.{decimal}
use Rattle.lines.specs.Line.{front, most}
use Rattle.lines.proofs.Fronts.{front_of, front_short, front_first}
use Rattle.lines.proofs.read_number.Goals as goal

pub split_at-requires : goal.split_at-requires
split_at-requires c = omega (arith, c.count_digits.ensures, front_short c.args.line.now)

pub number_of-requires-clause-digits : goal.number_of-requires-clause-digits
number_of-requires-clause-digits c =
    rw (c.split_at.ensures.front, c.count_digits.ensures, front_first) (front_of c.args.line.now).digits

pub number_of-requires-clause-nine : goal.number_of-requires-clause-nine
number_of-requires-clause-nine c =
    rw (c.split_at.ensures.front, c.count_digits.ensures, front_first) (front_of c.args.line.now).few

pub returns : goal.returns
returns c =
    let e : c.split_at.result.0.now ≡ front most c.args.line.now = c.split_at.ensures.front ∙ rw c.count_digits.ensures (front_first c.args.line.now) in
    (λ z. absurd (search (rules, tests)), c.number_of.ensures ∙ ap decimal e, rw c.split_at.ensures.back (rw c.count_digits.ensures))
