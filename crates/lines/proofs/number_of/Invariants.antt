-- `lines::number_of`: the digits so far are read. Assumes nothing.
use Rattle.std.proofs.Common.{◌≡◌, ◌^◌, ◌<◌, take}
use Rattle.decimals.specs.Decimal.{decimal}
use Rattle.lines.proofs.number_of.Given as goal

abbrev pub invariant-loop-x : goal.invariant-loop-x
invariant-loop-x l = (l.number ≡ decimal (take l.x-index l.digits)) × (l.number < 10 ^ l.x-index)
