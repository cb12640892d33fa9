-- `cells::inner_of` meets its contract. Assumes nothing.
use Prim.Native.Nat.{ℕ}
use mathlib.Core.Path.{ap, ◌∙◌}
use Rattle.cells.specs.Sets.{inner_parity}
use Rattle.cells.specs.Roles.{inner_of}
use Rattle.cells.proofs.inner_of.Goals as goal

pub returns : goal.returns
unfolding inner_of
returns c = let a = c.args in (
  c.inner_parity.ensures.0
      ∙ ap (λ (j : ℕ). inner_parity a.geometry a.at.tuple.0 a.at.position j) c.diagonal_at.ensures.0,
  c.inner_parity.ensures.1,
)
