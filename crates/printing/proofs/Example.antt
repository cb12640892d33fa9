-- 01's example and the other lines are computed, from the line to the bytes. Assumes nothing.
use mathlib.Core.Path.{refl}
use Rattle.counting.specs.Counting.{count_below, lowest}
use Rattle.counting.specs.Lists.{list_of}
use Rattle.geometry.specs.Geometry.{beyond_limits, r_of, b_of, whole, no_divisor_below, sizes_allowed, disks_of, parts_of, units_of, tuples_of}
use Rattle.design.specs.Design.{group_at, names}
use Rattle.checking.specs.Rules.{row_bad, rows_with, pair_bad, design_rules}
use Rattle.sizes.specs.Sizes.{sizes_rules}
use Rattle.held.specs.Held.{set_for, shifted, held_group, held_design, fill_rules}
use Rattle.region.specs.Columns.{label_column, label_at, diagonal_column, diagonal_at}
use Rattle.layout.specs.Regions.{part_of, tuple_of, position_of}
use Rattle.layout.specs.Places.{place_of, cell_at}
use Rattle.sources.specs.Plan.{lists_of, unit_plan, plan_below, plan_of}
use Rattle.planning.specs.Plan.{triples_of, plan_rules}
use Rattle.decimals.specs.Decimal.{is_digit, decimal_from, digits_below, followed, line_of, lines_of}
use Rattle.lines.specs.Line.{front, field, past, parsed}
use Rattle.printing.specs.Shown.{show_rules, refused_text, shown}
use Rattle.printing.specs.Example.{Lines}

pub lines : Lines
unfolding count_below lowest list_of beyond_limits r_of b_of whole no_divisor_below sizes_allowed disks_of parts_of units_of tuples_of group_at names row_bad rows_with pair_bad design_rules sizes_rules set_for shifted held_group held_design fill_rules label_column label_at diagonal_column diagonal_at part_of tuple_of position_of place_of cell_at lists_of unit_plan plan_below plan_of triples_of plan_rules is_digit decimal_from digits_below followed line_of lines_of front field past parsed show_rules refused_text shown
lines =
    record {
      the_example = refl;
      no_set = refl;
      not_prime = refl;
      group_too_small = refl;
      disk_too_high = refl;
      another_form = refl;
    }
