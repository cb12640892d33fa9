-- `reaching::kind_of` meets its contract. Assumes nothing.
use Rattle.reaching.proofs.Visits.{kind_outer, kind_inner, kind_neither}
use Rattle.reaching.proofs.kind_of.Goals as goal

pub returns-then-outer_restores : goal.returns-then-outer_restores
returns-then-outer_restores c = kind_outer _ _ _ _ _ c.cell_numbered-at.ensures.0 _ c.outer_restores.ensures c.if-outer_restores.true

pub returns-then-lacks_only : goal.returns-then-lacks_only
returns-then-lacks_only c = kind_inner _ _ _ _ _ c.cell_numbered-at.ensures.0 _ c.outer_restores.ensures c.if-outer_restores.false _ c.inner_set.ensures.0 _ c.lacks_only.ensures c.if-lacks_only.true

pub returns : goal.returns
returns c = kind_neither _ _ _ _ _ c.cell_numbered-at.ensures.0 _ c.outer_restores.ensures c.if-outer_restores.false _ c.inner_set.ensures.0 _ c.lacks_only.ensures c.if-lacks_only.false
