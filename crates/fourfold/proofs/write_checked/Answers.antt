-- `fourfold::write_checked` meets its contract. Assumes nothing.
use lib.ListN.{length}
use Rattle.fourfold.proofs.Places.{four_inside, four_apart}
use Rattle.fourfold.proofs.write_checked.Goals as goal

pub add_four-requires : goal.add_four-requires
add_four-requires c =
    let a = c.args in
    rw (
      c.start_of.ensures.0,
      c.start_of-2.ensures.0,
      c.start_of-3.ensures.0,
      c.start_of-4.ensures.0,
    ) (
      four_inside a.geometry a.four c.requires.1 a.offset (length a.bytes.now) c.requires.2 (length a.array.now) c.requires.3,
      four_apart a.geometry a.four c.requires.1 a.offset (length a.bytes.now) c.requires.2,
    )

pub returns : goal.returns
returns c =
    rw (
      c.start_of.ensures.0,
      c.start_of-2.ensures.0,
      c.start_of-3.ensures.0,
      c.start_of-4.ensures.0,
    )
    at c.add_four.ensures
