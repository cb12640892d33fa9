-- `decimals::put_line` meets its contract: three numbers, each where the one before it ends. Assumes nothing.
use native.Mathlib.Omega.{arith}
use lib.ListN.{length-append}
use Rattle.decimals.proofs.Stores.{room_left, put_append, put_three, line_length}
use Rattle.decimals.proofs.put_line.Goals as goal

pub put_number-second-requires : goal.put_number-second-requires
put_number-second-requires c = omega (arith, line_length c.args.x c.args.y c.args.z)

pub put_number-requires : goal.put_number-requires
put_number-requires c =
    room_left _ _ _ _ _ c.put_number-second.ensures (omega (arith, c.requires, line_length c.args.x c.args.y c.args.z))

pub put_number-requires-2 : goal.put_number-requires-2
put_number-requires-2 c =
    room_left _ _ _ _ _
    (put_append _ _ _ _ _ _ _ c.put_number-second.ensures c.put_number.ensures)
    (rw length-append (omega (arith, c.requires, line_length c.args.x c.args.y c.args.z)))

pub returns : goal.returns
returns c =
    put_three _ _ _ _ _ _ _ _ _ _
    c.put_number-second.ensures
    c.put_number.ensures
    c.put_number-2.ensures
