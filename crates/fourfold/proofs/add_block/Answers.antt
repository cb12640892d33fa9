-- `fourfold::add_block` meets its contract. Assumes nothing.
use mathlib.Core.Path.{refl}
use Rattle.runs.proofs.Writes.{block_written}
use Rattle.fourfold.proofs.add_block.Goals as goal

pub returns : goal.returns
returns c = block_written _ _ _ c.args.new.now _ _ _ refl c.difference.ensures c.add_at_four.ensures
