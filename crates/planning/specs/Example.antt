-- 01's example of the plan has 18 triples: a list of 53 numbers is too short for it, one of 54 is not. Assumes nothing.
use Rattle.std.specs.Prelude.{ℕ, ◌≡◌}
use Rattle.refusal.specs.Refusal.{Outcome, refused, accepted, answer}
use Rattle.cells.specs.Figure.{shelf}
use Rattle.sources.specs.Example.{held_seven}
use Rattle.planning.specs.Plan.{triples_of, plan_rules}

-- what is answered for a disk and a list of so many numbers
abbrev pub plan_seven : (disk room : ℕ) → Outcome ℕ
plan_seven disk room = answer (plan_rules shelf held_seven disk room) (triples_of shelf)

pub record PlansByNumber : Type 0 where
  pub fourteen : plan_seven 9 53 ≡ refused 14 0
  pub enough : plan_seven 9 54 ≡ accepted 18
  pub nine : plan_seven 21 53 ≡ refused 9 0
