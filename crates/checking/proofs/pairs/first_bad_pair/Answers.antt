-- `first_bad_pair`: the bad entries of the table are the bad pairs. Assumes nothing.
use Rattle.std.proofs.Common.{◌∙◌, arith}
use native.Mathlib.Nat.{mul-le-mul}
use Rattle.checking.proofs.Entries.{counted_pairs}
use Rattle.checking.proofs.Marks.{counted_none}
use Rattle.checking.proofs.pairs.first_bad_pair.Goals as goal

pub mark_rows-requires : goal.mark_rows-requires
mark_rows-requires c =
    let l = c.requires.rows.limits in
    (c.requires, counted_none _ _ _ 8281 (omega (arith, mul-le-mul l.v_high l.v_high)))

pub returns : goal.returns
returns c =
    c.first_bad_in.ensures
    ∙ counted_pairs _ _ _ _ (omega (arith, c.requires.rows.limits)) c.mark_rows.ensures
