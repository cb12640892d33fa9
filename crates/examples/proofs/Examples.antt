-- The table holds: antt computes each answer. Assumes nothing.
use Prim.Native.Nat.{ℕ}
use mathlib.Core.Path.{◌≡◌, refl, ap, ◌∙◌}
use mathlib.Core.List.{List, [], ◌∷◌}
use lib.ListN.{length}
use Rattle.refusal.specs.Refusal.{refused, accepted}
use Rattle.counting.specs.Counting.{count_below, lowest}
use Rattle.geometry.specs.Geometry.{beyond_limits, r_of, b_of, whole, no_divisor_below, sizes_allowed, disks_of, parts_of, units_of, tuples_of, user_units_of, tuple_sets_of, sets_of, bytes_of}
use Rattle.design.specs.Design.{group_at, names}
use Rattle.checking.specs.Rules.{row_bad, rows_with, pair_bad, design_rules}
use Rattle.sizes.specs.Sizes.{sizes_rules, sizes_of}
use Rattle.region.specs.Columns.{label_column, label_at, diagonal_column, diagonal_at}
use Rattle.numbering.specs.Positions.{parity_position, data_position}
use Rattle.numbering.specs.Numbering.{user_column, user_row, user_region, user_tuple}
use Rattle.cells.specs.Roles.{user_cell, user_outer, inner_of}
use Rattle.layout.specs.Regions.{part_of}
use Rattle.layout.specs.Places.{place_of, four_of}
use Rattle.layout.specs.Marks.{lost}
use Rattle.address.specs.Address.{map_rules}
use Rattle.array.specs.Rules.{array_fits, mark_high, array_rules}
use Rattle.peeling.specs.Peeling.{lacks_only, restored, present_after, tried, visit, sweep, passes, peeled}
use Rattle.reaching.specs.Reach.{tuple_cells_of, number_of, cell_numbered, outer_side, inner_side, sides_of, here_of, steps_of, incomplete}
use Rattle.rebuilding.specs.Rebuild.{restored_below, restored_of, rebuild_rules}
use Rattle.examples.specs.Examples.{Examples, rebuild_f}

-- the rebuild's answers at the length that 7 asks for
pub record Rebuilds : Type 0 where
  pub none_lost : rebuild_f (0 ∷ 0 ∷ 0 ∷ 0 ∷ 0 ∷ []) 189 ≡ accepted 0
  pub four_lost : rebuild_f (1 ∷ 1 ∷ 1 ∷ 1 ∷ 0 ∷ []) 189 ≡ accepted 36
  pub two_and_two : rebuild_f (1 ∷ 1 ∷ 0 ∷ 1 ∷ 1 ∷ []) 189 ≡ refused 13 1

rebuilds : Rebuilds
unfolding count_below lowest beyond_limits r_of b_of whole no_divisor_below sizes_allowed disks_of parts_of units_of tuples_of user_units_of tuple_sets_of sets_of bytes_of group_at names row_bad rows_with pair_bad design_rules sizes_rules sizes_of label_column diagonal_at parity_position data_position user_column user_row user_region user_tuple user_cell user_outer inner_of part_of place_of four_of map_rules label_at diagonal_column lost array_fits array_rules lacks_only restored present_after tried visit sweep passes peeled tuple_cells_of number_of cell_numbered outer_side inner_side sides_of here_of steps_of incomplete restored_below restored_of rebuild_rules mark_high
rebuilds = record { none_lost = refl; four_lost = refl; two_and_two = refl }

pub examples : Examples
unfolding count_below lowest beyond_limits r_of b_of whole no_divisor_below sizes_allowed disks_of parts_of units_of tuples_of user_units_of tuple_sets_of sets_of bytes_of group_at names row_bad rows_with pair_bad design_rules sizes_rules sizes_of label_column diagonal_at parity_position data_position user_column user_row user_region user_tuple user_cell user_outer inner_of part_of place_of four_of map_rules
examples =
    record {
      sizes_of_F = refl;
      example_1 = refl;
      example_2 = refl;
      example_3 = refl;
      example_4 = refl;
      example_5 = refl;
      example_6 = λ (a : List ℕ) (e : length a ≡ 189). ap (rebuild_f (0 ∷ 0 ∷ 0 ∷ 0 ∷ 0 ∷ [])) e ∙ rebuilds.none_lost;
      example_7 = λ (a : List ℕ) (e : length a ≡ 189). ap (rebuild_f (1 ∷ 1 ∷ 1 ∷ 1 ∷ 0 ∷ [])) e ∙ rebuilds.four_lost;
      example_8 = λ (a : List ℕ) (e : length a ≡ 189). ap (rebuild_f (1 ∷ 1 ∷ 0 ∷ 1 ∷ 1 ∷ [])) e ∙ rebuilds.two_and_two;
      example_9 = refl;
      example_10 = λ (d : List ℕ). refl;
      example_11 = refl;
      example_12 = refl;
    }
