-- `held::fill` meets its contract: each return by the law of its case. Assumes nothing.
use Prim.Native.Nat.{◌*◌}
use mathlib.Core.Path.{◌≡◌, sym, ap, ◌∙◌}
use native.Mathlib.Nat.{mul-le-mul}
use native.Mathlib.Omega.{arith}
use lib.ListN.{length}
use Rattle.held.specs.Held.{set_for}
use Rattle.held.proofs.Table.{DifferenceSet, held_found, none_found, held_set}
use Rattle.held.proofs.Answers.{not_held, other_length, fills}
use Rattle.held.proofs.fill.Goals as goal
use Rattle.held.proofs.fill.Goals.{In-Some}

-- past the first test a set is held for v, and it is the one that was found
difference_set : (c : In-Some) → DifferenceSet c.args.v c.in-Some.set.now
difference_set c = held_set _ _ c.in-Some.ensures

found : (c : In-Some) → set_for c.args.v ≡ c.in-Some.set.now
found c = held_found _ _ c.in-Some.ensures

is_held : (c : In-Some) → length (set_for c.args.v) ≡ 0 → ⊥
is_held c e = let L = (difference_set c).developable.limits in omega (arith, ap length (found c), L.k_low)

pub returns-in_default : goal.returns-in_default
returns-in_default c = not_held _ _ (ap length (none_found _ (rw c.in_default.is at c.set_of.ensures)))

pub overflow_mul-v : goal.overflow_mul-v
overflow_mul-v c =
    let L = (difference_set (goal.at.overflow_mul-v c).In-Some).developable.limits in omega (arith, mul-le-mul L.v_high L.k_high)

pub returns-then-design-v : goal.returns-then-design-v
returns-then-design-v c =
    let h = (goal.at.returns-then-design-v c).In-Some in
    other_length _ _ (is_held h) (λ e. c.if-design-v.true (e ∙ ap (λ s. c.args.v * length s) (found h)))

pub develop-requires : goal.develop-requires
develop-requires c = ((difference_set (goal.at.develop-requires c).In-Some).developable, c.if-design-v.false)

pub returns : goal.returns
returns c =
    let h = (goal.at.returns c).In-Some in
    fills _ _ (is_held h) _ (c.if-design-v.false ∙ ap (λ s. c.args.v * length s) (sym (found h))) (rw (found h) c.develop.ensures)
