-- The statements of specs/Theorems.antt are proved. Assumes nothing.
use Prim.Native.Nat.{◌^◌, ◌<◌}
use mathlib.Core.Path.{refl}
use native.Mathlib.Omega.{arith}
use Rattle.decimals.specs.Decimal.{decimal_from, digits_below, followed, line_of, lines_of}
use Rattle.decimals.specs.Theorems.{ADecimalReadsAsItsNumber, NoLeadingZero, AsManyDigitsAsNeeded, AtMostTenDigits, RoomForLines, TwoTriples}
use Rattle.decimals.proofs.Laws.{reads_as, leads, few}
use Rattle.decimals.proofs.Lines.{lines_room}

pub a_decimal_reads_as_its_number : ADecimalReadsAsItsNumber
a_decimal_reads_as_its_number = reads_as

pub no_leading_zero : NoLeadingZero
no_leading_zero n = (leads n).1

pub as_many_digits_as_needed : AsManyDigitsAsNeeded
as_many_digits_as_needed = few

pub at_most_ten_digits : AtMostTenDigits
at_most_ten_digits n h = let l : n < 10 ^ 10 = omega arith in few n 10 (omega arith) l

pub room_for_lines : RoomForLines
room_for_lines = lines_room

pub two_triples : TwoTriples
unfolding decimal_from digits_below followed line_of lines_of
two_triples = refl
