-- `passing::fill_region` meets its contract. Assumes nothing.
use Rattle.std.proofs.Common.{ℕ, ◌<◌, ◌%◌, length, get_or, false, not, arith}
use Rattle.std.proofs.lemmas.Nat.{row_fits}
use Rattle.passing.proofs.Flags.{part_more, row_at}
use Rattle.passing.proofs.fill_region.Goals as goal

pub loop-i-preserved : goal.loop-i-preserved
loop-i-preserved c =
    let lost = c.args.lost.now in
    part_more (λ (n : ℕ). not (get_or lost (n % length lost) false)) _ _ _ _ _ (omega (arith, row_fits c.loop-i.i (length lost) (length lost) (length lost) c.loop-i-test.true (omega arith))) (omega arith) c.loop-i.invariant
    (λ (x : ℕ) (l : x < length lost). row_at lost c.fill_row.new.row c.loop-i.i x l (c.fill_row.ensures x (omega arith)))
