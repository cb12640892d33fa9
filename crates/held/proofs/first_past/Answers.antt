-- `held::first_past` meets its contract. Assumes nothing.
use Rattle.std.proofs.Common.{◌-◌, ◌<◌, ◌≤◌, ◌∙◌, rules, tests}
use Rattle.std.proofs.lemmas.Iterator.{YieldsList-from_slice, IsFirst-from_position}
use Rattle.held.proofs.Rotation.{past_where}
use Rattle.held.proofs.first_past.Goals as goal

pub returns : goal.returns
returns c =
    let a = c.args in
    c.unwrap_or.ensures
    ∙ past_where a.v a.set.now a.i c.position.result
    (IsFirst-from_position _ _ c.position.result (λ x. a.v - a.i ≤ x) (λ x. x < a.v - a.i) c.position.ensures.ran
    (YieldsList-from_slice a.set.now c.iter.ensures.rest) (λ x q k. search (rules, tests)) (λ x q k. search (rules, tests)))
