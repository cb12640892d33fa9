-- `planning::plan` meets its contract: each return by the law of its case. Assumes nothing.
use Prim.Native.Nat.{◌<◌}
use mathlib.Core.Path.{◌≡◌, sym}
use native.Mathlib.Omega.{arith}
use Rattle.refusal.specs.Refusal.{accepted, verdict}
use Rattle.refusal.proofs.Same.{passed_on}
use Rattle.geometry.specs.Geometry.{disks_of}
use Rattle.design.specs.Design.{Laid}
use Rattle.sizes.specs.Sizes.{sizes_rules}
use Rattle.sizes.proofs.Reasons.{accepted_is_laid}
use Rattle.planning.proofs.Answers.{sizes_refuse, disk_high, list_short, plan_long, goes}
use Rattle.planning.proofs.plan.Goals as goal
use Rattle.planning.proofs.plan.Goals.{In_ok-check_sizes}

-- none of 2 to 6 is due
fine : (c : In_ok-check_sizes) → verdict (sizes_rules c.args.geometry c.args.design.now) ≡ accepted tt
fine c = sym c.in_ok-check_sizes.ensures

laid : (c : In_ok-check_sizes) → Laid c.args.geometry c.args.design.now
laid c = accepted_is_laid _ _ (fine c)

pub returns-in_err-check_sizes : goal.returns-in_err-check_sizes
returns-in_err-check_sizes c =
    let a = c.args in
    rw (passed_on _ _ c.from_residual.ensures.1)
    (sizes_refuse a.geometry a.design.now a.disk.0 a.list.now _ _ (sym c.in_err-check_sizes.ensures))

pub disks-requires : goal.disks-requires
disks-requires c = (laid c).sound

pub returns-then-disks-disk : goal.returns-then-disks-disk
returns-then-disks-disk c =
    let a = c.args in
    disk_high a.geometry a.design.now a.disk.0 a.list.now (fine (goal.at.returns-then-disks-disk c).In_ok-check_sizes)
    (omega (arith, c.if-disks-disk.true, c.disks.ensures))

pub triples_of-n-requires : goal.triples_of-n-requires
triples_of-n-requires c = (laid (goal.at.triples_of-n-requires c).In_ok-check_sizes).sound

pub returns-then-list-n : goal.returns-then-list-n
returns-then-list-n c =
    let a = c.args in
    list_short a.geometry a.design.now a.disk.0 a.list.now (fine (goal.at.returns-then-list-n c).In_ok-check_sizes)
    (omega (arith, c.if-disks-disk.false, c.disks.ensures))
    (omega (arith, c.if-list-n.true, c.triples_of-n.ensures.0))

pub invariant_of-layout : goal.invariant_of-layout
invariant_of-layout c = record { laid = laid (goal.at.invariant_of-layout c).In_ok-check_sizes }

pub plan_disk-requires : goal.plan_disk-requires
plan_disk-requires c =
    let a = c.args in
    let f = fine (goal.at.plan_disk-requires c).In_ok-check_sizes in
    let low : a.disk.0 < disks_of a.geometry = (omega (arith, c.if-disks-disk.false, c.disks.ensures)) in
    let long = plan_long a.geometry a.design.now a.disk.0 a.list.now f low in
    record { disk_bound = low; disk_in_bounds = omega (arith, long, c.if-list-n.false, c.triples_of-n.ensures.0) }

pub returns : goal.returns
returns c =
    let a = c.args in
    goes a.geometry a.design.now a.disk.0 a.list.now (fine (goal.at.returns c).In_ok-check_sizes)
    (omega (arith, c.if-disks-disk.false, c.disks.ensures))
    (omega (arith, c.if-list-n.false, c.triples_of-n.ensures.0))
    _ c.triples_of-n.ensures.0 _ c.plan_disk.ensures
