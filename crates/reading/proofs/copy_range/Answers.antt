-- `reading::copy_range` meets its contract. Assumes nothing.
use Prim.Native.Nat.{ℕ, ◌+◌}
use mathlib.Core.Path.{ap, ◌∙◌}
use lib.ListN.{length}
use Rattle.leaves.specs.Bytes.{run}
use Rattle.reading.proofs.Answers.{part_run}
use Rattle.reading.proofs.copy_range.Goals as goal

pub returns : goal.returns
returns c =
    let a = c.args in
    c.copy_into.ensures
    ∙ part_run a.array.now _ (length a.out.now)
    ∙ ap (λ (x : ℕ). run a.array.now (x + a.offset) (length a.out.now)) c.start_of.ensures.0
