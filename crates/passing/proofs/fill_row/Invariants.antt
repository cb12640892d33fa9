-- `passing::fill_row` meets its contract. Assumes nothing.
use Rattle.std.proofs.Common.{◌≡◌, false, not, ℕ, ◌<◌, get_or}
use Rattle.passing.proofs.fill_row.Given as goal

abbrev pub invariant-loop-x : goal.invariant-loop-x
invariant-loop-x l = (k : ℕ) → k < l.x → get_or l.row k false ≡ not (get_or l.lost k false)
