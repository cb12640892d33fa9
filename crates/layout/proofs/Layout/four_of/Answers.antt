-- `layout::Layout::four_of` meets its contract. Assumes nothing.
use Rattle.layout.proofs.Found.{four_found}
use Rattle.layout.proofs.Layout.four_of.Goals as goal

pub returns : goal.returns
returns c = four_found _ _ _ _ _ _ _ _ c.digits_of-digits.ensures.0 c.data_cell.ensures.0
    c.parity_cell.ensures.0 c.pair_of-of_data.ensures c.pair_of-of_outer.ensures
