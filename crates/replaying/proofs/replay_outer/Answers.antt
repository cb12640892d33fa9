-- `replaying::replay_outer` meets its contract. Assumes nothing.
use Rattle.replaying.proofs.Entries.{label_one, outer_bytes}
use Rattle.replaying.proofs.replay_outer.Goals as goal

pub restore_run-requires : goal.restore_run-requires
restore_run-requires c = label_one _ _ _ _ c.requires.sound.2 c.requires.cell_in.0 _ c.requires.cell_in.1 _ c.label_starts.ensures

pub returns : goal.returns
returns c = outer_bytes _ _ _ _ _ _ _ c.label_at-label.ensures.0 c.label_starts.ensures c.restore_run.ensures
