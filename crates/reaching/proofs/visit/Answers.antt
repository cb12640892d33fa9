-- `reaching::visit` meets its contract. Assumes nothing.
use Rattle.reaching.proofs.Visits.{cells_few, room_for, visit_present, visit_stuck, visit_restores}
use native.Mathlib.Omega.{arith}
use Rattle.reaching.proofs.visit.Goals as goal

pub returns-then-flags-n : goal.returns-then-flags-n
returns-then-flags-n c = visit_present _ _ _ _ _ _ c.if-flags-n.true

pub overflow_cast-cell : goal.overflow_cast-cell
overflow_cast-cell c = omega (arith, cells_few _ c.requires.sound)

pub returns-in_default : goal.returns-in_default
returns-in_default c = visit_stuck _ _ _ _ _ _ c.if-flags-n.false _ c.kind_of.ensures c.in_default.is

pub entry_of-requires : goal.entry_of-requires
entry_of-requires c = omega (arith, cells_few _ c.requires.sound)

pub bounds-log-count : goal.bounds-log-count
bounds-log-count c = room_for _ _ _ c.requires.room c.requires.tuple_bound.1 c.if-flags-n.false

pub returns : goal.returns
returns c = rw c.entry_of.ensures (visit_restores _ _ _ _ _ _ c.if-flags-n.false _ c.kind_of.ensures _ c.in-Some.is)
