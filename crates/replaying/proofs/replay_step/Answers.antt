-- `replaying::replay_step` meets its contract: the entry says the cell and the kind. Assumes nothing.
use Rattle.replaying.proofs.Entries.{entry_read}
use Rattle.replaying.proofs.replay_step.Goals as goal

pub returns-in-Outer : goal.returns-in-Outer
returns-in-Outer c = entry_read _ _ _ _ _ _ _ _ _ c.read_entry-cell.ensures c.cell_numbered-at.ensures.0 c.in-Outer.is c.replay_outer.ensures

pub returns-in-Inner : goal.returns-in-Inner
returns-in-Inner c = entry_read _ _ _ _ _ _ _ _ _ c.read_entry-cell.ensures c.cell_numbered-at.ensures.0 c.in-Inner.is c.replay_inner.ensures
