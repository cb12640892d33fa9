-- `replaying::replay_inner` meets its contract. Assumes nothing.
use Rattle.replaying.proofs.Entries.{diagonal_one, inner_bytes}
use Rattle.replaying.proofs.replay_inner.Goals as goal

pub restore_run-requires : goal.restore_run-requires
restore_run-requires c = diagonal_one _ _ _ _ c.requires.sound.2 c.requires.cell_in.0 _ c.requires.cell_in.1 _ c.diagonal_starts.ensures

pub returns : goal.returns
returns c = inner_bytes _ _ _ _ _ _ _ c.diagonal_at-diagonal.ensures.0 c.diagonal_starts.ensures c.restore_run.ensures
