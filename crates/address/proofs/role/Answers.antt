-- `address::role` meets its contract. Assumes nothing.
use mathlib.Core.Path.{◌≡◌, sym, ap, ◌∙◌}
use native.Mathlib.Omega.{arith}
use Rattle.refusal.specs.Refusal.{accepted, verdict}
use Rattle.refusal.proofs.Same.{passed_on}
use Rattle.design.specs.Design.{Laid}
use Rattle.sizes.specs.Sizes.{sizes_rules}
use Rattle.sizes.proofs.Reasons.{accepted_is_laid}
use Rattle.address.proofs.Answers.{role_refused, role_disk_high, role_unit_high, role_goes}
use Rattle.address.proofs.role.Goals as goal
use Rattle.address.proofs.role.Goals.{In_ok-check_sizes, then-disks-disk-via-then-disks-disk, then-disks-disk-via-else-disks-disk+then-units-unit}

-- what the check accepted is laid out
fine : (c : In_ok-check_sizes) → verdict (sizes_rules c.args.geometry c.args.design.now) ≡ accepted tt
fine c = sym c.in_ok-check_sizes.ensures

laid : (c : In_ok-check_sizes) → Laid c.args.geometry c.args.design.now
laid c = accepted_is_laid _ _ (fine c)

pub returns-in_err-check_sizes : goal.returns-in_err-check_sizes
returns-in_err-check_sizes c =
    passed_on _ _ c.from_residual.ensures.1
    ∙ sym
    (role_refused _ _ _ _ _ _ _ (sym c.in_err-check_sizes.ensures))

pub disks-requires : goal.disks-requires
disks-requires c = (laid c).sound

pub returns-then-disks-disk : goal.returns-then-disks-disk
returns-then-disks-disk c =
    let f = fine (goal.at.returns-then-disks-disk c).In_ok-check_sizes in
    elim c.then-disks-disk.branch [
      | then-disks-disk-via-then-disks-disk w ↦
          sym (role_disk_high _ _ _ _ _ f (omega (arith, c.disks.ensures, w.if-disks-disk.true)))
      | then-disks-disk-via-else-disks-disk+then-units-unit w ↦
          sym (role_unit_high _ _ _ _ _ f (omega (arith, w.units.ensures, w.if-units-unit.true)))
    ]

pub units-requires : goal.units-requires
units-requires c = (laid (goal.at.units-requires c).In_ok-check_sizes).sound

pub invariant_of-layout : goal.invariant_of-layout
invariant_of-layout c = record { laid = laid (goal.at.invariant_of-layout c).In_ok-check_sizes }

pub returns : goal.returns
returns c = ap accepted c.role_at.ensures
    ∙ sym (role_goes _ _ _ _ _ (fine (goal.at.returns c).In_ok-check_sizes) (omega (arith, c.disks.ensures)) (omega (arith, c.units.ensures)))
