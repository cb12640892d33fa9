-- `array::array_fits` meets its contract. Assumes nothing.
use mathlib.Core.Path.{sym}
use native.Mathlib.Omega.{arith}
use Rattle.array.proofs.Fits.{fits_above, fits_within}
use Rattle.array.proofs.array_fits.Goals as goal

pub returns-then-whole-gt-BYTES_MAX : goal.returns-then-whole-gt-BYTES_MAX
returns-then-whole-gt-BYTES_MAX c = sym (fits_above _ _ (omega (arith, c.bytes-whole.ensures, c.if-whole-gt-BYTES_MAX.true)))

pub returns : goal.returns
returns c = fits_within _ _ _ c.bytes-whole.ensures (omega (arith, c.if-whole-gt-BYTES_MAX.false))
