-- The refusals and the limits by numbers: antt computes each. Assumes nothing.
use mathlib.Core.Path.{refl}
use Rattle.counting.specs.Counting.{count_below, lowest}
use Rattle.geometry.specs.Geometry.{beyond_limits, r_of, b_of, whole, no_divisor_below, sizes_allowed, disks_of, units_of, bytes_of}
use Rattle.design.specs.Design.{group_at, names}
use Rattle.checking.specs.Rules.{row_bad, rows_with, pair_bad, design_rules}
use Rattle.sizes.specs.Sizes.{sizes_rules}
use Rattle.address.specs.Address.{role_rules}
use Rattle.array.specs.Rules.{array_fits, mark_high, array_rules}
use Rattle.examples.specs.Refusals.{Refusals, Limits}

pub refusals : Refusals
unfolding count_below lowest beyond_limits r_of b_of whole no_divisor_below sizes_allowed disks_of units_of bytes_of group_at names row_bad rows_with pair_bad design_rules sizes_rules role_rules array_fits mark_high array_rules
refusals =
    record {
      two = refl;
      four = refl;
      seven_array = refl;
      seven_marks = refl;
      eight = refl;
      nine_disk = refl;
      nine_unit = refl;
      none = refl;
    }

pub limits : Limits
unfolding lowest beyond_limits r_of bytes_of no_divisor_below sizes_allowed array_fits
limits =
    record {
      most = refl;
      v_high = refl;
      k_high = refl;
      least = refl;
      v_low = refl;
      k_low = refl;
      g_most = refl;
      g_high = refl;
      u_high = refl;
      u_least = refl;
      u_low = refl;
      within = refl;
      above = refl;
    }
