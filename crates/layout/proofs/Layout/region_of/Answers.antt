-- `layout::Layout::region_of` meets its contract. Assumes nothing.
use mathlib.Core.Path.{◌∙◌}
use Rattle.layout.proofs.Found.{region_found}
use borrow.Author.Rules.{rules}
use Rattle.layout.proofs.Layout.region_of.Goals as goal

pub returns : goal.returns
returns c = (
  region_found _ _ c.args.self.now.laid _ _ _ _ _ c.requires c.row_start-start.ensures.0 c.from.ensures
      (c.from-2.ensures ∙ c.count_entries.ensures),
  search rules,
)
