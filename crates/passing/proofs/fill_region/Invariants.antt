-- `passing::fill_region` meets its contract. Assumes nothing.
use Rattle.std.proofs.Common.{◌≡◌, ◌*◌, ◌%◌, false, not, ℕ, ◌<◌, get_or}
use Rattle.passing.proofs.fill_region.Given as goal

abbrev pub invariant-loop-i : goal.invariant-loop-i
invariant-loop-i l = (n : ℕ) → n < l.i * l.g → get_or l.region n false ≡ not (get_or l.lost (n % l.g) false)
