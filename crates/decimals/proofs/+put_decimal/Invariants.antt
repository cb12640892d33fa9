-- `decimals::put_decimal` calls itself with a tenth of the number, so the number is the measure. Assumes nothing.
use Rattle.decimals.proofs.+put_decimal.Given as goal

abbrev pub decreases-put_decimal : goal.decreases-put_decimal
decreases-put_decimal l = l.n
