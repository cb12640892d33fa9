-- `list_fits`: b·k fits its type. Assumes nothing.
use Rattle.std.proofs.Common.{◌*◌, ◌≤◌, arith}
use Rattle.geometry.proofs.Laws.{entries_bound}
use Rattle.checking.proofs.list_fits.Goals as goal

pub overflow_mul-result : goal.overflow_mul-result
overflow_mul-result c = let e : c.b_of.result * c.args.k ≤ 8190 = rw c.b_of.ensures (entries_bound _ _ c.requires) in omega arith
