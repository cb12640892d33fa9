-- `reaching::outer_restores` meets its contract. Assumes nothing.
use borrow.Author.Tests.{lt-ltb, le-ltb}
use Rattle.reaching.specs.State.{outer_restores}
use Rattle.reaching.proofs.outer_restores.Goals as goal

pub returns-then-at-geometry : goal.returns-then-at-geometry
unfolding outer_restores
returns-then-at-geometry c = rw (lt-ltb _ _ c.if-at-geometry.true, ← c.outer_set.ensures.0) c.lacks_only.ensures

pub returns-else-at-geometry : goal.returns-else-at-geometry
unfolding outer_restores
returns-else-at-geometry c = rw (le-ltb _ _ c.if-at-geometry.false)
