-- `lines::number_of` meets its contract: one digit more at each turn. Assumes nothing.
use native.Mathlib.Omega.{arith}
use Rattle.std.proofs.Common.{rules}
use Rattle.decimals.proofs.Laws.{from_none}
use Rattle.lines.proofs.Reading.{digit_at, read_more, below_more, below_most}
use Rattle.lines.proofs.number_of.Goals as goal

pub loop-x-init : goal.loop-x-init
loop-x-init c = search (rules, from_none)

pub overflow_mul-number : goal.overflow_mul-number
overflow_mul-number c = omega (arith, below_most _ _ c.loop-x.invariant.1 (omega arith))

pub overflow_sub-x : goal.overflow_sub-x
overflow_sub-x c = (digit_at _ _ c.requires.digits c.loop-x-test.true).0

pub overflow_add-number : goal.overflow_add-number
overflow_add-number c =
    omega (arith, below_most _ _ c.loop-x.invariant.1 (omega arith), c.from.ensures)

pub loop-x-preserved : goal.loop-x-preserved
loop-x-preserved c =
    let s = c.loop-x in
    let d = digit_at _ _ c.requires.digits c.loop-x-test.true in (
      cc (c.from.ensures, s.invariant.0, read_more c.args.digits.now s.x-index c.loop-x-test.true),
      rw c.from.ensures (below_more _ _ _ s.invariant.1 d.1),
    )
