-- The statements of specs/Theorems.antt hold. Assumes nothing.
use Rattle.array.specs.Theorems.{EachUnitLiesInTheArray, NoTwoUnitsShareAByte}
use Rattle.array.proofs.Starts.{cell_start_in, cells_apart}

pub each_unit_lies_in_the_array : EachUnitLiesInTheArray
each_unit_lies_in_the_array = cell_start_in

pub no_two_units_share_a_byte : NoTwoUnitsShareAByte
no_two_units_share_a_byte = cells_apart
