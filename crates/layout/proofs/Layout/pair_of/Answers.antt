-- `layout::Layout::pair_of` meets its contract. Assumes nothing.
use Rattle.layout.proofs.Found.{place_found, inner_found}
use Rattle.layout.proofs.Layout.pair_of.Goals as goal

pub returns : goal.returns
returns c = let region = c.region_of-region.ensures.0 in
    let own = place_found _ _ _ _ region _ c.place_in.ensures in
    let inner = inner_found _ _ _ _ region _ _ c.inner_of-parity.ensures.0 c.place_in-2.ensures in
    rw (own, inner)
