-- `decimals::put_decimal` meets its contract: the decimal of a tenth of the number, and the last digit after it. Assumes nothing.
use native.Mathlib.Omega.{arith}
use Rattle.decimals.proofs.Stores.{put_low, put_high, low_length, high_length}
use Rattle.decimals.proofs.+put_decimal.Goals as goal

pub bounds-out-0 : goal.bounds-out-0
bounds-out-0 t c = omega (arith, c.requires, low_length c.args.n (omega arith))

pub returns-then-n-lt10 : goal.returns-then-n-lt10
returns-then-n-lt10 t c = put_low _ c.args.n (omega arith) (omega (arith, c.requires, low_length c.args.n (omega arith)))

pub put_decimal-end-requires : goal.put_decimal-end-requires
put_decimal-end-requires t c = (omega (arith, c.decreases), omega (arith, c.requires, high_length c.args.n (omega arith)))

pub bounds-out-end : goal.bounds-out-end
bounds-out-end t c = omega (arith, c.requires, high_length c.args.n (omega arith), c.put_decimal-end.ensures.0)

pub returns : goal.returns
returns t c = put_high _ c.args.n _ _ (omega arith) c.requires c.put_decimal-end.ensures
