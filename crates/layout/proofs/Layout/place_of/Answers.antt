-- `layout::Layout::place_of` meets its contract. Assumes nothing.
use Rattle.layout.proofs.Found.{place_found}
use Rattle.layout.proofs.Layout.place_of.Goals as goal

pub returns : goal.returns
returns c = place_found _ _ _ _ c.region_of-region.ensures.0 _ c.place_in.ensures
