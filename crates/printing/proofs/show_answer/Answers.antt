-- `printing::show_answer` meets its contract: the text of a refusal, or the plan's lines. Assumes nothing.
use mathlib.Core.Path.{sym, ap, ◌∙◌}
use native.Mathlib.Omega.{arith}
use lib.Seq.{length-take-le}
use Rattle.refusal.specs.Refusal.{outcome_of}
use Rattle.printing.proofs.Accepted.{refused_text, numbers_fit, lines_fit, plan_text}
use Rattle.printing.proofs.show_answer.Goals as goal

pub slice_bounds-list-end : goal.slice_bounds-list-end
slice_bounds-list-end c =
    let planned = c.plan_asked-planned in
    let q = c.args.q in
    omega (arith, numbers_fit q _ (sym planned.ensures.0 ∙ ap outcome_of c.in-Ok.is), planned.auto.list)

pub slice_bounds-render-end : goal.slice_bounds-render-end
slice_bounds-render-end c = sym (length-take-le _ _ (
    let planned = c.plan_asked-planned in
    omega (arith, numbers_fit c.args.q _ (sym planned.ensures.0 ∙ ap outcome_of c.in-Ok.is), planned.auto.list)))

pub render-requires : goal.render-requires
render-requires c =
    let planned = c.plan_asked-planned in
    let e = sym planned.ensures.0 ∙ ap outcome_of c.in-Ok.is in
    omega (arith, lines_fit c.args.q _ e _ _ planned.ensures.1, c.requires)

pub returns-in-Err : goal.returns-in-Err
returns-in-Err c =
    let planned = c.plan_asked-planned in
    let e = sym planned.ensures.0 ∙ ap outcome_of c.in-Err.is in
    refused_text c.args.q _ _ e _ _ _ (rw c.number.ensures at c.put_refused.ensures)

pub returns-in-Ok : goal.returns-in-Ok
returns-in-Ok c =
    let planned = c.plan_asked-planned in
    let e = sym planned.ensures.0 ∙ ap outcome_of c.in-Ok.is in
    plan_text c.args.q _ e _ _ planned.ensures.1 _ _ _ c.render.ensures
