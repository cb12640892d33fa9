-- `first_bad_in`: no number of the first a lines is a bad pair. Assumes nothing.
use Rattle.std.proofs.Common.{◌≡◌, sym, ◌∙◌, arith}
use Rattle.checking.proofs.Entries.{lines_next, line_found, lines_all}
use Rattle.checking.proofs.pairs.first_bad_in.Goals as goal

pub returns-in-Some : goal.returns-in-Some
returns-in-Some c = line_found _ _ _ c.loop-a.invariant _ c.loop-a-test.true (sym c.in-Some.ensures)

pub loop-a-preserved : goal.loop-a-preserved
loop-a-preserved c = lines_next _ _ _ c.loop-a.invariant (sym c.first_bad_with.ensures ∙ c.in_default.is)

pub returns : goal.returns
returns c = let e : c.loop-a.a ≡ c.args.v = omega arith in lines_all _ _ (rw e at c.loop-a.invariant)
