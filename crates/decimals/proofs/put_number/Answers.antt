-- `decimals::put_number` meets its contract: a byte after the decimal. Assumes nothing.
use native.Mathlib.Omega.{arith}
use Rattle.decimals.proofs.Stores.{put_followed, followed_length}
use Rattle.decimals.proofs.put_number.Goals as goal

pub put_decimal-last-requires : goal.put_decimal-last-requires
put_decimal-last-requires c = omega (arith, followed_length c.args.n c.args.by)

pub bounds-out-last : goal.bounds-out-last
bounds-out-last c = omega (arith, followed_length c.args.n c.args.by, c.put_decimal-last.ensures.0)

pub returns : goal.returns
returns c = put_followed _ c.args.n _ _ _ c.requires c.put_decimal-last.ensures
