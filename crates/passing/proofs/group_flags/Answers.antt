-- `passing::group_flags` meets its contract. Assumes nothing.
use Rattle.std.proofs.Common.{arith}
use Rattle.reaching.proofs.Fills.{first_disk_is}
use Rattle.passing.proofs.Flags.{part_is}
use Rattle.passing.proofs.group_flags.Goals as goal

pub slice_bounds-result-end : goal.slice_bounds-result-end
slice_bounds-result-end c =
    omega (arith, (first_disk_is _ _ _ _ _ _ c.args.layout.now.laid c.requires.tuple_bound.0 c.requires.tuple_bound.1 c.row_start-start.ensures.0 c.from-group.ensures).1)

pub returns : goal.returns
returns c =
    let disks = first_disk_is _ _ _ _ _ _ c.args.layout.now.laid c.requires.tuple_bound.0 c.requires.tuple_bound.1 c.row_start-start.ensures.0 c.from-group.ensures in
    part_is _ _ _ _ disks.0 (omega arith)
