-- `sizes::derived` meets its contract. Assumes nothing.
use Rattle.sizes.specs.Sizes.{sizes_of}
use Rattle.sizes.proofs.derived.Goals as goal

pub returns : goal.returns
unfolding sizes_of
returns c =
    rw (c.parts.ensures, c.tuples.ensures, c.disks.ensures, c.units.ensures, c.user_units.ensures, c.sets.ensures, c.bytes.ensures)
