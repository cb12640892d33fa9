-- `sets::label_starts` meets its contract. Assumes nothing.
use native.Mathlib.Omega.{arith}
use Rattle.sets.proofs.Loops.{labels_none, labels_column, labels_more}
use Rattle.sets.proofs.label_starts.Goals as goal

pub loop-l-init : goal.loop-l-init
loop-l-init c = labels_none c.requires.sound.0 c.requires.row_lt_g.2 c.requires.row_lt_g.1

pub unit_from-requires : goal.unit_from-requires
unit_from-requires c = let i = c.loop-l.invariant in (c.requires.sound.0, c.requires.sound.1, c.requires.sound.2.each _ (omega arith), c.requires.row_lt_g.0, labels_column c.requires.sound.0 c.requires.row_lt_g.2 i)

pub turned-x-requires : goal.turned-x-requires
turned-x-requires c = (labels_column c.requires.sound.0 c.requires.row_lt_g.2 c.loop-l.invariant, omega (arith, c.requires.row_lt_g.0, c.requires.sound.0.g_low), c.requires.sound.0.g_high)

pub loop-l-preserved : goal.loop-l-preserved
loop-l-preserved c = labels_more c.requires.sound.0 c.requires.row_lt_g.2 c.loop-l.invariant (omega arith) _ _ c.unit_from.ensures c.turned-x.ensures.0
