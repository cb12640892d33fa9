-- The statements of specs/Theorems.antt hold. Assumes nothing.
use Rattle.completing.specs.Theorems.{ThreeLostDisksAreRebuilt, AGroupAndOneDiskOfEachOtherAreRebuilt}
use Rattle.completing.proofs.Groups.{three_disks, one_group}
pub use Rattle.completing.proofs.Completes.{one_heavy_group_completes}

pub three_lost_disks_are_rebuilt : ThreeLostDisksAreRebuilt
three_lost_disks_are_rebuilt G d marks L few t ht =
    one_heavy_group_completes G d marks L t ht (three_disks G d marks L t ht few)

pub a_group_and_one_disk_of_each_other_are_rebuilt : AGroupAndOneDiskOfEachOtherAreRebuilt
a_group_and_one_disk_of_each_other_are_rebuilt G d marks L heavy light t ht =
    one_heavy_group_completes G d marks L t ht (one_group G d marks L t ht heavy light)
