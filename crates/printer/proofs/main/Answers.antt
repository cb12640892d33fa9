-- `printer::main` gives `show` the room that it requires. Assumes nothing.
use Rattle.std.proofs.Common.{arith}
use Rattle.printer.proofs.main.Goals as goal

-- the search finds it too; it stands here so that a shorter room is refused by it
pub show-end-requires : goal.show-end-requires
show-end-requires c = omega arith
