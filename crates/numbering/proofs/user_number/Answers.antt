-- `numbering::user_number` meets its contract. Assumes nothing.
use native.Mathlib.Omega.{arith}
use Rattle.geometry.proofs.Laws.{tuples_bound}
use Rattle.numbering.proofs.Steps.{number_of}
use Rattle.numbering.proofs.user_number.Goals as goal

pub digit_after-region-requires : goal.digit_after-region-requires
digit_after-region-requires c = omega (arith, tuples_bound _ c.requires.sound)

pub digit_after-label-requires : goal.digit_after-label-requires
digit_after-label-requires c = omega (arith, tuples_bound _ c.requires.sound)

pub digit_after-requires : goal.digit_after-requires
digit_after-requires c = omega (arith, tuples_bound _ c.requires.sound)

pub returns : goal.returns
returns c = number_of _ _ _ _ _ _ _ _ c.digit_after-region.ensures.0 c.digit_after-label.ensures.0
    c.digit_after.ensures.0
