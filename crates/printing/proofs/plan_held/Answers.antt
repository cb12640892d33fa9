-- `printing::plan_held` meets its contract: the refusal of the filling, or the plan's answer. Assumes nothing.
use mathlib.Core.Path.{sym, ap, ◌∙◌}
use native.Mathlib.Omega.{arith}
use Rattle.printing.proofs.Designs.{set_small, filled}
use Rattle.printing.proofs.Answers.{not_filled, filled_plan}
use Rattle.printing.proofs.plan_held.Goals as goal
use Rattle.refusal.proofs.Same.{passed_on}

pub returns-in_err-fill : goal.returns-in_err-fill
returns-in_err-fill c =
    rw (passed_on _ _ c.from_residual.ensures.1)
    (not_filled c.args.q c.args.list.now _ c.requires.1 _ _ (sym c.in_err-fill.ensures.0))

pub overflow_cast-geometry : goal.overflow_cast-geometry
overflow_cast-geometry c =
    omega (arith, c.requires.0, set_small c.args.q.v)

pub returns : goal.returns
returns c =
    let fine = sym c.in_ok-fill.ensures.0 in
    filled_plan c.args.q c.args.list.now _ c.requires.1 _ _ _ _ fine
    (ap (λ n. record { v = c.args.q.v; k = n; g = c.args.q.g; u = 1 }) c.requires.0)
    (filled c.args.q.v c.args.design.now _ fine c.in_ok-fill.ensures.1)
    c.requires.2
    c.plan.ensures.0
    c.plan.ensures.1
