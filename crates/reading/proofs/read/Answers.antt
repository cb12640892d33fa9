-- `reading::read` meets its contract: each return by the law of its case. Assumes nothing.
use mathlib.Core.Path.{◌≡◌, sym, ap, ◌∙◌}
use lib.ListN.{length}
use Rattle.refusal.specs.Refusal.{accepted, verdict}
use Rattle.layout.specs.Places.{place_of}
use Rattle.refusal.proofs.Same.{passed_on}
use Rattle.array.specs.Rules.{array_rules, range_rules}
use Rattle.array.proofs.Fits.{Ready, ready}
use Rattle.array.proofs.Range.{Ranged, ranged}
use Rattle.reading.proofs.Answers.{array_refuses, range_refuses, mark_refuses, goes, user_place_in, user_disk_in}
use Rattle.reading.proofs.read.Goals as goal
use Rattle.reading.proofs.read.Goals.{In_ok-check_array, In_ok-check_range}

-- none of 2 to 8 is due
checked : (c : In_ok-check_array) → let a = c.args in verdict (array_rules a.geometry a.design.now (length a.array.now) a.marks.now) ≡ accepted tt
checked c = sym c.in_ok-check_array.ensures

checked-ready : (c : In_ok-check_array) → let a = c.args in Ready a.geometry a.design.now (length a.array.now) a.marks.now
checked-ready c = let a = c.args in ready a.geometry a.design.now (length a.array.now) a.marks.now (checked c)

-- neither 10 nor 11
inside : (c : In_ok-check_range) → let a = c.args in verdict (range_rules a.geometry a.n.0 a.offset (length a.out.now)) ≡ accepted tt
inside c = sym c.in_ok-check_range.ensures

inside-ranged : (c : In_ok-check_range) → let a = c.args in Ranged a.geometry a.n.0 a.offset (length a.out.now)
inside-ranged c = let a = c.args in ranged a.geometry a.n.0 a.offset (length a.out.now) (inside c)

pub returns-in_err-check_array : goal.returns-in_err-check_array
returns-in_err-check_array c =
    let a = c.args in
    rw (passed_on _ _ c.from_residual.ensures.1)
    (array_refuses a.geometry a.design.now a.array.now a.marks.now a.n.0 a.offset a.out.now _ _
    (sym c.in_err-check_array.ensures))

pub check_range-requires : goal.check_range-requires
check_range-requires c = (checked-ready c).laid.sound

pub returns-in_err-check_range : goal.returns-in_err-check_range
returns-in_err-check_range c =
    let a = c.args in
    rw (passed_on _ _ c.from_residual-in_err-check_range.ensures.1)
    (range_refuses a.geometry a.design.now a.array.now a.marks.now a.n.0 a.offset a.out.now (checked (goal.at.returns-in_err-check_range c).In_ok-check_array) _ _
    (sym c.in_err-check_range.ensures))

pub user_cell-requires : goal.user_cell-requires
user_cell-requires c = record { sound = (checked-ready (goal.at.user_cell-requires c).In_ok-check_array).laid.sound; n_bound = (inside-ranged (goal.at.user_cell-requires c).In_ok-check_range).user }

pub invariant_of-layout : goal.invariant_of-layout
invariant_of-layout c = record { laid = (checked-ready (goal.at.invariant_of-layout c).In_ok-check_array).laid }

pub check_mark-requires : goal.check_mark-requires
check_mark-requires c =
    let a = c.args in
    user_disk_in a.geometry a.design.now a.array.now a.marks.now a.n.0 a.offset a.out.now (checked (goal.at.check_mark-requires c).In_ok-check_array) (inside (goal.at.check_mark-requires c).In_ok-check_range) _
    (c.place_of-place.ensures ∙ ap (place_of a.geometry a.design.now) c.user_cell.ensures.0)

pub returns-in_err-check_mark : goal.returns-in_err-check_mark
returns-in_err-check_mark c =
    let a = c.args in
    rw (passed_on _ _ c.from_residual-in_err-check_mark.ensures.1)
    (mark_refuses a.geometry a.design.now a.array.now a.marks.now a.n.0 a.offset a.out.now (checked (goal.at.returns-in_err-check_mark c).In_ok-check_array) (inside (goal.at.returns-in_err-check_mark c).In_ok-check_range) _
    (c.place_of-place.ensures ∙ ap (place_of a.geometry a.design.now) c.user_cell.ensures.0)
    _ _ (sym c.in_err-check_mark.ensures))

pub copy_range-requires : goal.copy_range-requires
copy_range-requires c =
    let a = c.args in
    let h = checked-ready (goal.at.copy_range-requires c).In_ok-check_array in (
      h.laid.sound,
      user_place_in a.geometry a.design.now a.array.now a.marks.now a.n.0 a.offset a.out.now (checked (goal.at.copy_range-requires c).In_ok-check_array) (inside (goal.at.copy_range-requires c).In_ok-check_range) _
          (c.place_of-place.ensures ∙ ap (place_of a.geometry a.design.now) c.user_cell.ensures.0),
      (inside-ranged (goal.at.copy_range-requires c).In_ok-check_range).inside,
      h.whole,
    )

pub returns : goal.returns
returns c =
    let a = c.args in
    goes a.geometry a.design.now a.array.now a.marks.now a.n.0 a.offset a.out.now (checked (goal.at.returns c).In_ok-check_array) (inside (goal.at.returns c).In_ok-check_range) _
    (c.place_of-place.ensures ∙ ap (place_of a.geometry a.design.now) c.user_cell.ensures.0)
    (sym c.in_ok-check_mark.ensures) _ c.copy_range.ensures
