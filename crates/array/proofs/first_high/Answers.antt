-- `array::first_high` meets its contract. Assumes nothing.
use Prim.Native.Nat.{◌≤◌, ◌<◌}
use borrow.Author.Rules.{rules}
use borrow.Author.Tests.{tests}
use Rattle.std.proofs.lemmas.Iterator.{IsFirst-from_position, YieldsList-from_slice}
use Rattle.array.proofs.High.{first_is_lowest}
use Rattle.array.proofs.first_high.Goals as goal

pub returns-then-any_high : goal.returns-then-any_high
returns-then-any_high c =
    first_is_lowest _ c.position.result
    (IsFirst-from_position _ _ _ (λ m. 1 < m) (λ m. m ≤ 1) c.position.ensures.ran (YieldsList-from_slice c.args.marks.now cc)
    (λ x q k. search (rules, tests)) (λ x q k. search (rules, tests)))
