-- `runs::add_run` meets its contract. Assumes nothing.
use Rattle.leaves.proofs.Runs.{put_xors}
use Rattle.runs.proofs.add_run.Goals as goal

pub returns : goal.returns
returns c = put_xors _ _ _ _ c.xor_into.ensures
