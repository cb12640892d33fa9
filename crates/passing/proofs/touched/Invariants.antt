-- `passing::touched` meets its contract: no disk of the groups so far is lost. Assumes nothing.
use Rattle.std.proofs.Common.{◌≡◌, ℕ, ◌<◌, false}
use Rattle.reaching.proofs.Whole.{lost_at}
use Rattle.passing.proofs.touched.Given as goal

abbrev pub invariant-loop-l : goal.invariant-loop-l
invariant-loop-l l = (i : ℕ) → i < l.l → lost_at l.layout.geometry l.layout.design.now l.lost l.tuple.0 i ≡ false
