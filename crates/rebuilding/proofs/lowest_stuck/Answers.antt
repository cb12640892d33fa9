-- `rebuilding::lowest_stuck` meets its contract. Assumes nothing.
use Rattle.rebuilding.proofs.Few.{few_complete}
use Rattle.rebuilding.proofs.lowest_stuck.Goals as goal

pub returns-then-lost_disks-le3 : goal.returns-then-lost_disks-le3
returns-then-lost_disks-le3 c =
    few_complete _ _ c.args.layout.now.laid c.args.lost.now c.requires _ c.lost_disks.ensures c.if-lost_disks-le3.true
