-- `writing::write` meets its contract: each return by the law of its case. Assumes nothing.
use mathlib.Core.Path.{◌≡◌, sym}
use lib.ListN.{length}
use Rattle.refusal.specs.Refusal.{accepted, verdict}
use Rattle.refusal.proofs.Same.{passed_on}
use Rattle.array.specs.Rules.{array_rules, range_rules}
use Rattle.array.proofs.Fits.{Ready, ready}
use Rattle.array.proofs.Range.{Ranged, ranged}
use Rattle.writing.proofs.Answers.{array_refuses, range_refuses, lost_refuses, goes, places_in, places_marked}
use Rattle.writing.proofs.write.Goals as goal
use Rattle.writing.proofs.write.Goals.{In_ok-check_array, In_ok-check_range}

-- none of 2 to 8 is due
checked : (c : In_ok-check_array) → let a = c.args in verdict (array_rules a.geometry a.design.now (length a.array.now) a.marks.now) ≡ accepted tt
checked c = sym c.in_ok-check_array.ensures

checked-ready : (c : In_ok-check_array) → let a = c.args in Ready a.geometry a.design.now (length a.array.now) a.marks.now
checked-ready c = let a = c.args in ready a.geometry a.design.now (length a.array.now) a.marks.now (checked c)

-- neither 10 nor 11
inside : (c : In_ok-check_range) → let a = c.args in verdict (range_rules a.geometry a.n.0 a.offset (length a.bytes.now)) ≡ accepted tt
inside c = sym c.in_ok-check_range.ensures

inside-ranged : (c : In_ok-check_range) → let a = c.args in Ranged a.geometry a.n.0 a.offset (length a.bytes.now)
inside-ranged c = let a = c.args in ranged a.geometry a.n.0 a.offset (length a.bytes.now) (inside c)

pub returns-in_err-check_array : goal.returns-in_err-check_array
returns-in_err-check_array c =
    let a = c.args in
    rw (passed_on _ _ c.from_residual.ensures.1)
    (array_refuses a.geometry a.design.now a.array.now a.marks.now a.n.0 a.offset a.bytes.now _ _
    (sym c.in_err-check_array.ensures))

pub check_range-requires : goal.check_range-requires
check_range-requires c = (checked-ready c).laid.sound

pub returns-in_err-check_range : goal.returns-in_err-check_range
returns-in_err-check_range c =
    let a = c.args in
    rw (passed_on _ _ c.from_residual-in_err-check_range.ensures.1)
    (range_refuses a.geometry a.design.now a.array.now a.marks.now a.n.0 a.offset a.bytes.now (checked (goal.at.returns-in_err-check_range c).In_ok-check_array) _ _
    (sym c.in_err-check_range.ensures))

pub invariant_of-layout : goal.invariant_of-layout
invariant_of-layout c = record { laid = (checked-ready (goal.at.invariant_of-layout c).In_ok-check_array).laid }

pub four_of-four-requires : goal.four_of-four-requires
four_of-four-requires c = (inside-ranged (goal.at.four_of-four-requires c).In_ok-check_range).user

pub check_four-requires : goal.check_four-requires
check_four-requires c =
    let a = c.args in
    places_marked a.geometry a.design.now a.array.now a.marks.now a.n.0 a.offset a.bytes.now (checked (goal.at.check_four-requires c).In_ok-check_array) (inside (goal.at.check_four-requires c).In_ok-check_range) _
    c.four_of-four.ensures

pub returns-in_err-check_four : goal.returns-in_err-check_four
returns-in_err-check_four c =
    let a = c.args in
    rw (passed_on _ _ c.from_residual-in_err-check_four.ensures.1)
    (lost_refuses a.geometry a.design.now a.array.now a.marks.now a.n.0 a.offset a.bytes.now (checked (goal.at.returns-in_err-check_four c).In_ok-check_array) (inside (goal.at.returns-in_err-check_four c).In_ok-check_range) _
    c.four_of-four.ensures _ _
    (sym c.in_err-check_four.ensures))

pub write_checked-requires : goal.write_checked-requires
write_checked-requires c =
    let a = c.args in
    let h = checked-ready (goal.at.write_checked-requires c).In_ok-check_array in (
      h.laid.sound,
      places_in a.geometry a.design.now a.array.now a.marks.now a.n.0 a.offset a.bytes.now (checked (goal.at.write_checked-requires c).In_ok-check_array) (inside (goal.at.write_checked-requires c).In_ok-check_range) _
          c.four_of-four.ensures,
      (inside-ranged (goal.at.write_checked-requires c).In_ok-check_range).inside,
      h.whole,
    )

pub returns : goal.returns
returns c =
    let a = c.args in
    goes a.geometry a.design.now a.array.now a.marks.now a.n.0 a.offset a.bytes.now (checked (goal.at.returns c).In_ok-check_array) (inside (goal.at.returns c).In_ok-check_range) _
    c.four_of-four.ensures
    (sym c.in_ok-check_four.ensures) _ c.write_checked.ensures
