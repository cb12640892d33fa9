-- `layout::scan::find_entry` meets its contract. Assumes nothing.
use native.Mathlib.Omega.{arith}
use Rattle.counting.proofs.Laws.{count_le}
use Rattle.design.proofs.Entries.{is_entry}
use Rattle.layout.proofs.Scanned.{passed_none, passed_found, passed_hit, passed_miss, passed_all}
use Rattle.layout.proofs.scan.find_entry.Goals.{then-entry-name+else-n-wanted, else-entry-name}
use Rattle.layout.proofs.scan.find_entry.Goals as goal

pub loop-at-init : goal.loop-at-init
loop-at-init c = passed_none _ _ _

pub returns-then-n-wanted : goal.returns-then-n-wanted
returns-then-n-wanted c = passed_found _ _ _ _ _ c.loop-at.invariant (omega arith) c.if-entry-name.true c.if-n-wanted.true

pub overflow_add-n : goal.overflow_add-n
overflow_add-n c = omega (arith, c.loop-at.invariant.counted, count_le (is_entry c.args.design.now c.args.a.0) c.loop-at.at)

pub loop-at-preserved : goal.loop-at-preserved
loop-at-preserved c = let i = c.loop-at.invariant in
    elim c.if-entry-name.branch [
      | then-entry-name+else-n-wanted w ↦ rw w.n-is (passed_hit _ _ _ _ _ i w.if-entry-name.true w.if-n-wanted.false)
      | else-entry-name w ↦ rw w.n-is (passed_miss _ _ _ _ _ i w.if-entry-name.false)
    ]

pub returns : goal.returns
returns c = passed_all _ _ _ _ _ c.loop-at.invariant c.loop-at-test.false
