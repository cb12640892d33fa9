-- `sets::diagonal_starts` meets its contract. Assumes nothing.
use native.Mathlib.Omega.{arith}
use Rattle.sets.proofs.Loops.{diagonals_none, diagonals_column, diagonals_more}
use Rattle.sets.proofs.diagonal_starts.Goals as goal

pub loop-i-init : goal.loop-i-init
loop-i-init c = diagonals_none c.requires.sound.0 c.requires.diagonal_lt_g.1 _ c.column_of_diagonal-x.ensures.0

pub unit_from-requires : goal.unit_from-requires
unit_from-requires c = (c.requires.sound.0, c.requires.sound.1, c.requires.sound.2, omega arith, diagonals_column c.requires.sound.0 c.requires.diagonal_lt_g.1 c.loop-i.invariant)

pub turned-x-requires : goal.turned-x-requires
turned-x-requires c = (diagonals_column c.requires.sound.0 c.requires.diagonal_lt_g.1 c.loop-i.invariant, omega (arith, c.requires.sound.0.g_low), c.requires.sound.0.g_high)

pub loop-i-preserved : goal.loop-i-preserved
loop-i-preserved c = diagonals_more c.requires.sound.0 c.requires.diagonal_lt_g.1 c.loop-i.invariant (omega arith) _ _ c.unit_from.ensures c.turned-x.ensures.0
