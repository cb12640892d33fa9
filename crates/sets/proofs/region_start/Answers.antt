-- `sets::region_start` meets its contract. Assumes nothing.
use mathlib.Core.Path.{ap, subst⁻¹, ◌∙◌}
use Rattle.layout.specs.Ranges.{PlaceIn}
use Rattle.layout.proofs.Places.{place_in}
use Rattle.array.specs.Array.{start_of, cell_start}
use borrow.Author.Rules.{rules}
use Rattle.sets.proofs.region_start.Goals as goal

pub start_of-requires : goal.start_of-requires
start_of-requires c = record { sound = c.args.layout.now.laid.sound; place_in = subst⁻¹ (PlaceIn _) c.place_of-place.ensures (place_in _ _ c.args.layout.now.laid _ (search rules)) }

pub returns : goal.returns
unfolding cell_start
returns c = c.start_of.ensures.0 ∙ ap (start_of _) c.place_of-place.ensures
