-- `passing::start_flags` meets its contract: the regions so far are filled. Assumes nothing.
use Rattle.std.proofs.Common.{◌≡◌, ◌*◌, false, ℕ, ◌<◌, get_or}
use Rattle.reaching.specs.State.{start_flag}
use Rattle.passing.proofs.start_flags.Given as goal

abbrev pub invariant-loop-l : goal.invariant-loop-l
invariant-loop-l l = (n : ℕ) → n < l.l * l.cells → get_or l.flags n false ≡ start_flag l.layout.geometry l.layout.design.now l.lost l.tuple.0 n
