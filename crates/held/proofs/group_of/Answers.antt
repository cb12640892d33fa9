-- `held::group_of` meets its contract, by the two kinds of members. Assumes nothing.
use Rattle.std.proofs.Common.{◌+◌, sym, arith}
use Rattle.held.proofs.Rotation.{past_le, from_past, group_first, group_rest}
use Rattle.held.proofs.group_of.Goals as goal

pub overflow_sub-wrapped : goal.overflow_sub-wrapped
overflow_sub-wrapped c = omega (arith, past_le _ _ c.requires.0 _ c.requires.1)

pub overflow_sub-result : goal.overflow_sub-result
overflow_sub-result c = omega (arith, from_past _ _ c.requires.0 _ c.requires.1 (c.args.past + c.args.l) (omega arith) (omega arith))

pub returns-then-l-wrapped : goal.returns-then-l-wrapped
returns-then-l-wrapped c = rw c.requires.2 (sym (group_first _ _ c.requires.0 _ c.requires.1 _ (omega arith)))

pub returns-else-l-wrapped : goal.returns-else-l-wrapped
returns-else-l-wrapped c = rw c.requires.2 (sym (group_rest _ _ c.requires.0 _ c.requires.1 _ (omega arith) c.requires.3))
