-- `printing::plan_asked` meets its contract: the list of its own is as long as the held design. Assumes nothing.
use Prim.Native.Nat.{ℕ, ◌*◌}
use mathlib.Core.Path.{refl, sym, ap, ◌∙◌}
use native.Mathlib.Omega.{arith}
use Rattle.printing.proofs.Designs.{design_length, design_room, part_long}
use Rattle.printing.proofs.plan_asked.Goals as goal

pub overflow_mul-end : goal.overflow_mul-end
overflow_mul-end c =
    let v = c.args.q.v in
    omega (arith, ap (λ (n : ℕ). v * n) c.set_size-k.ensures, design_room v)

pub slice_bounds-numbers-end : goal.slice_bounds-numbers-end
slice_bounds-numbers-end c =
    let v = c.args.q.v in
    omega (arith, ap (λ (n : ℕ). v * n) c.set_size-k.ensures, design_room v)

pub slice_bounds-plan_held-end : goal.slice_bounds-plan_held-end
slice_bounds-plan_held-end c =
    let v = c.args.q.v in
    sym
    (part_long _ _ (refl)
    (omega (arith, ap (λ (n : ℕ). v * n) c.set_size-k.ensures, design_room v)))

pub plan_held-requires : goal.plan_held-requires
plan_held-requires c =
    let size = c.set_size-k.ensures in
    let v = c.args.q.v in
    let e = ap (λ (n : ℕ). v * n) size in
    (size, part_long _ _ (refl) (omega (arith, e, design_room v)) ∙ e ∙ sym (design_length v), c.requires)
