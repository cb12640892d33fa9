-- `layout::scan::count_entries` meets its contract. Assumes nothing.
use Prim.Native.Nat.{◌<◌}
use mathlib.Core.Path.{sym}
use native.Mathlib.Omega.{arith}
use Rattle.std.proofs.lemmas.List.{get_or-take, length-take}
use Rattle.counting.proofs.Laws.{count_zero, count_le}
use Rattle.design.proofs.Entries.{is_entry}
use Rattle.layout.proofs.Scanned.{counted_hit, counted_miss}
use Rattle.layout.proofs.scan.count_entries.Goals.{then-entry-name, else-entry-name}
use Rattle.layout.proofs.scan.count_entries.Goals as goal

pub loop-entry-init : goal.loop-entry-init
loop-entry-init c = sym (count_zero _)

pub overflow_add-n : goal.overflow_add-n
overflow_add-n c = omega (arith, count_le (is_entry c.args.design.now c.args.a.0) c.loop-entry.entry-index, length-take c.args.end c.args.design.now)

pub loop-entry-preserved : goal.loop-entry-preserved
loop-entry-preserved c = let i = c.loop-entry in
    let low : i.entry-index < c.args.end = omega (arith, length-take c.args.end c.args.design.now) in
    elim c.if-entry-name.branch [
      | then-entry-name w ↦ rw w.n-is (counted_hit _ _ _ _ i.invariant (rw get_or-take at w.if-entry-name.true))
      | else-entry-name w ↦ rw w.n-is (counted_miss _ _ _ _ i.invariant (rw get_or-take at w.if-entry-name.false))
    ]
