-- The history by numbers is one: antt computes each answer, each array and each mark. Assumes nothing.
use Prim.Native.Nat.{ℕ}
use mathlib.Core.Path.{◌≡◌, refl, sym, subst}
use mathlib.Core.List.{List, [], ◌∷◌, ◌++◌}
use lib.ListN.{take, drop, replicate}
use Rattle.counting.specs.Counting.{count_below, lowest}
use Rattle.counting.specs.Lists.{list_of}
use Rattle.leaves.specs.Bytes.{xors, run, add_at, add_all, sum_at, sums, zero_below}
use Rattle.geometry.specs.Geometry.{beyond_limits, r_of, b_of, whole, no_divisor_below, sizes_allowed, disks_of, parts_of, units_of, tuples_of, user_units_of, tuple_sets_of, sets_of, bytes_of}
use Rattle.design.specs.Design.{group_at, names}
use Rattle.checking.specs.Rules.{row_bad, rows_with, pair_bad, design_rules}
use Rattle.sizes.specs.Sizes.{sizes_rules}
use Rattle.region.specs.Columns.{label_column, label_at, diagonal_column, diagonal_at}
use Rattle.numbering.specs.Positions.{parity_position, data_position}
use Rattle.numbering.specs.Numbering.{user_column, user_row, user_region, user_tuple}
use Rattle.cells.specs.Roles.{user_cell, user_outer, inner_of}
use Rattle.layout.specs.Marks.{lost}
use Rattle.layout.specs.Places.{place_of, four_of}
use Rattle.layout.specs.Regions.{part_of}
use Rattle.array.specs.Array.{start_of, cell_start, formatted_array, formatted_marks}
use Rattle.array.specs.Rules.{array_fits, mark_high, array_rules}
use Rattle.consistent.specs.Consistent.{outer_starts, inner_starts, tuple_set_starts, set_starts, set_zero}
use Rattle.reading.specs.Reading.{read_of, read_rules}
use Rattle.fourfold.specs.Writing.{write_cells, difference_of, write_of}
use Rattle.writing.specs.Writing.{four_lost, first_lost, write_rules}
use Rattle.finding.specs.Bad.{bad_below, lowest_bad, found_below, audit_of}
use Rattle.auditing.specs.Auditing.{audit_rules}
use Rattle.peeling.specs.Peeling.{lacks_only, restored, present_after, tried, visit, sweep, passes, peeled}
use Rattle.reaching.specs.Reach.{tuple_cells_of, number_of, cell_numbered, outer_side, inner_side, sides_of, here_of, steps_of, incomplete}
use Rattle.restoring.specs.Restore.{stored, restored_in}
use Rattle.replaying.specs.Replay.{side_starts, step_bytes, replayed}
use Rattle.rebuilding.specs.Rebuild.{rebuilt_below, rebuilt_of, restored_below, restored_of, rebuild_rules}
use Rattle.histories.specs.Histories.{State, FormatStep, ReadStep, WriteStep, AuditStep, RebuildStep, Loss, History, start, more}
use Rattle.histories.specs.Example.{pairs, rows, unit, range_refused, mark_refused, events, left}
use Rattle.histories.specs.Ideal.{Ideal}
use Rattle.histories.specs.Theorems.{Keeps, AHistoryByNumbers}
use Rattle.histories.proofs.Kept.{every_history_keeps_its_ideal}
use Rattle.histories.proofs.Made.{nothing_marked}
use Rattle.histories.proofs.Refused.{state}
use Rattle.histories.proofs.Steps.{format_step, write_step, read_step, audit_step, rebuild_step, loss_step}
use Rattle.std.specs.Prelude.{Ok}

-- ---- the states, in their order
abbrev none : List ℕ
none = replicate 9 0

abbrev group0 : List ℕ
group0 = 1 ∷ 1 ∷ 1 ∷ 0 ∷ 0 ∷ 0 ∷ 0 ∷ 0 ∷ 0 ∷ []

abbrev any : State
any = state (replicate 108 7) (replicate 9 1)

abbrev zeros : State
zeros = state (replicate 108 0) none

abbrev one : List ℕ
one =
    0 ∷ 5 ∷ 0 ∷ 0 ∷ 0 ∷ 0 ∷ 0 ∷ 0 ∷ 0 ∷ 0 ∷ 0 ∷ 0
    ∷ 0 ∷ 0 ∷ 0 ∷ 0 ∷ 0 ∷ 0 ∷ 0 ∷ 0 ∷ 0 ∷ 0 ∷ 0 ∷ 0
    ∷ 0 ∷ 0 ∷ 0 ∷ 0 ∷ 0 ∷ 5 ∷ 0 ∷ 0 ∷ 0 ∷ 0 ∷ 0 ∷ 0
    ∷ 0 ∷ 5 ∷ 0 ∷ 0 ∷ 0 ∷ 0 ∷ 0 ∷ 0 ∷ 0 ∷ 0 ∷ 0 ∷ 0
    ∷ 0 ∷ 0 ∷ 0 ∷ 0 ∷ 0 ∷ 0 ∷ 0 ∷ 0 ∷ 0 ∷ 0 ∷ 0 ∷ 0
    ∷ 0 ∷ 0 ∷ 0 ∷ 0 ∷ 0 ∷ 5 ∷ 0 ∷ 0 ∷ 0 ∷ 0 ∷ 0 ∷ 0
    ∷ 0 ∷ 0 ∷ 0 ∷ 0 ∷ 0 ∷ 0 ∷ 0 ∷ 0 ∷ 0 ∷ 0 ∷ 0 ∷ 0
    ∷ 0 ∷ 0 ∷ 0 ∷ 0 ∷ 0 ∷ 0 ∷ 0 ∷ 0 ∷ 0 ∷ 0 ∷ 0 ∷ 0
    ∷ 0 ∷ 0 ∷ 0 ∷ 0 ∷ 0 ∷ 0 ∷ 0 ∷ 0 ∷ 0 ∷ 0 ∷ 0 ∷ 0
    ∷ []

abbrev first : State
first = state one none

abbrev gone : State
gone = state (replicate 36 9 ++ drop 36 one) group0

abbrev second : State
second = state (replicate 36 9 ++ drop 36 left) group0

abbrev hit : State
hit = state (replicate 36 1 ++ drop 36 left) group0

abbrev good : State
good = state left none

-- disks 1, 4 and 8
abbrev three : State
three =
    state
    (take 12 left ++ (replicate 12 255 ++ (take 24 (drop 24 left) ++ (replicate 12 255 ++ (take 36 (drop 60 left) ++ replicate 12 255)))))
    (0 ∷ 1 ∷ 0 ∷ 0 ∷ 1 ∷ 0 ∷ 0 ∷ 0 ∷ 1 ∷ [])

-- ---- the steps
formats : FormatStep pairs rows any (Ok tt) zeros
unfolding count_below lowest beyond_limits r_of b_of whole no_divisor_below sizes_allowed disks_of parts_of units_of tuples_of user_units_of bytes_of group_at names row_bad rows_with pair_bad design_rules sizes_rules array_fits mark_high array_rules formatted_array formatted_marks
formats = format_step pairs rows any zeros (Ok tt) refl refl refl

writes : WriteStep pairs rows zeros (unit 0) 1 (5 ∷ []) (Ok tt) first
unfolding count_below lowest beyond_limits r_of b_of whole no_divisor_below sizes_allowed disks_of parts_of units_of tuples_of user_units_of bytes_of group_at names row_bad rows_with pair_bad design_rules sizes_rules array_fits mark_high array_rules label_column label_at diagonal_column diagonal_at parity_position data_position user_column user_row user_region user_tuple user_cell user_outer inner_of lost place_of four_of part_of start_of cell_start xors run add_at add_all read_of write_cells difference_of write_of four_lost first_lost write_rules
writes = write_step pairs rows zeros first (unit 0) 1 (5 ∷ []) (Ok tt) refl refl refl

loses : Loss pairs first gone
unfolding count_below lowest r_of disks_of units_of bytes_of
loses = loss_step pairs rows first gone refl refl refl refl refl

refused_write : WriteStep pairs rows gone (unit 0) 0 (1 ∷ []) mark_refused gone
unfolding count_below lowest beyond_limits r_of b_of whole no_divisor_below sizes_allowed disks_of parts_of units_of tuples_of user_units_of bytes_of group_at names row_bad rows_with pair_bad design_rules sizes_rules array_fits mark_high array_rules label_column label_at diagonal_column diagonal_at parity_position data_position user_column user_row user_region user_tuple user_cell user_outer inner_of lost place_of four_of part_of start_of cell_start xors run add_at add_all read_of write_cells difference_of write_of four_lost first_lost write_rules
refused_write = write_step pairs rows gone gone (unit 0) 0 (1 ∷ []) mark_refused refl refl refl

writes_beside : WriteStep pairs rows gone (unit 13) 0 (200 ∷ 7 ∷ []) (Ok tt) second
unfolding count_below lowest beyond_limits r_of b_of whole no_divisor_below sizes_allowed disks_of parts_of units_of tuples_of user_units_of bytes_of group_at names row_bad rows_with pair_bad design_rules sizes_rules array_fits mark_high array_rules label_column label_at diagonal_column diagonal_at parity_position data_position user_column user_row user_region user_tuple user_cell user_outer inner_of lost place_of four_of part_of start_of cell_start xors run add_at add_all read_of write_cells difference_of write_of four_lost first_lost write_rules
writes_beside = write_step pairs rows gone second (unit 13) 0 (200 ∷ 7 ∷ []) (Ok tt) refl refl refl

refused_read : ReadStep pairs rows second (unit 0) 0 (8 ∷ 8 ∷ []) mark_refused second
unfolding count_below lowest beyond_limits r_of b_of whole no_divisor_below sizes_allowed disks_of parts_of units_of tuples_of user_units_of bytes_of group_at names row_bad rows_with pair_bad design_rules sizes_rules array_fits mark_high array_rules label_column label_at diagonal_column diagonal_at parity_position data_position user_column user_row user_region user_tuple user_cell user_outer inner_of lost place_of four_of part_of start_of cell_start run read_of read_rules
refused_read = read_step pairs rows second second (unit 0) 0 (8 ∷ 8 ∷ []) mark_refused (8 ∷ 8 ∷ []) refl refl

hits_again : Loss pairs second hit
unfolding count_below lowest r_of disks_of units_of bytes_of
hits_again = loss_step pairs rows second hit refl refl refl refl refl

rebuilds : RebuildStep pairs rows hit (Ok 18) good
unfolding count_below lowest beyond_limits r_of b_of whole no_divisor_below sizes_allowed disks_of parts_of units_of tuples_of user_units_of bytes_of group_at names row_bad rows_with pair_bad design_rules sizes_rules array_fits mark_high array_rules label_column label_at diagonal_column diagonal_at parity_position data_position user_column user_row user_region user_tuple user_cell user_outer inner_of lost place_of four_of part_of start_of cell_start formatted_marks list_of sum_at sums lacks_only restored present_after tried visit sweep passes peeled tuple_cells_of number_of cell_numbered outer_side inner_side sides_of here_of steps_of incomplete stored restored_in side_starts step_bytes replayed rebuilt_below rebuilt_of restored_below restored_of rebuild_rules
rebuilds = rebuild_step pairs rows hit good (Ok 18) refl refl refl

reads : ReadStep pairs rows good (unit 0) 0 (0 ∷ 5 ∷ []) (Ok tt) good
unfolding count_below lowest beyond_limits r_of b_of whole no_divisor_below sizes_allowed disks_of parts_of units_of tuples_of user_units_of bytes_of group_at names row_bad rows_with pair_bad design_rules sizes_rules array_fits mark_high array_rules label_column label_at diagonal_column diagonal_at parity_position data_position user_column user_row user_region user_tuple user_cell user_outer inner_of lost place_of four_of part_of start_of cell_start run read_of read_rules
reads = read_step pairs rows good good (unit 0) 0 (0 ∷ 5 ∷ []) (Ok tt) (8 ∷ 8 ∷ []) refl refl

loses_others : Loss pairs good three
unfolding count_below lowest r_of disks_of units_of bytes_of
loses_others = loss_step pairs rows good three refl refl refl refl refl

refused_range : WriteStep pairs rows three (unit 17) 1 (1 ∷ 2 ∷ []) range_refused three
unfolding count_below lowest beyond_limits r_of b_of whole no_divisor_below sizes_allowed disks_of parts_of units_of tuples_of user_units_of bytes_of group_at names row_bad rows_with pair_bad design_rules sizes_rules array_fits mark_high array_rules label_column label_at diagonal_column diagonal_at parity_position data_position user_column user_row user_region user_tuple user_cell user_outer inner_of lost place_of four_of part_of start_of cell_start xors run add_at add_all read_of write_cells difference_of write_of four_lost first_lost write_rules
refused_range = write_step pairs rows three three (unit 17) 1 (1 ∷ 2 ∷ []) range_refused refl refl refl

rebuilds_again : RebuildStep pairs rows three (Ok 18) good
unfolding count_below lowest beyond_limits r_of b_of whole no_divisor_below sizes_allowed disks_of parts_of units_of tuples_of user_units_of bytes_of group_at names row_bad rows_with pair_bad design_rules sizes_rules array_fits mark_high array_rules label_column label_at diagonal_column diagonal_at parity_position data_position user_column user_row user_region user_tuple user_cell user_outer inner_of lost place_of four_of part_of start_of cell_start formatted_marks list_of sum_at sums lacks_only restored present_after tried visit sweep passes peeled tuple_cells_of number_of cell_numbered outer_side inner_side sides_of here_of steps_of incomplete stored restored_in side_starts step_bytes replayed rebuilt_below rebuilt_of restored_below restored_of rebuild_rules
rebuilds_again = rebuild_step pairs rows three good (Ok 18) refl refl refl

audits : AuditStep pairs rows good (Ok (record { bad = 0; lowest = 0 })) good
unfolding count_below lowest beyond_limits r_of b_of whole no_divisor_below sizes_allowed disks_of parts_of units_of tuples_of user_units_of bytes_of group_at names row_bad rows_with pair_bad design_rules sizes_rules array_fits mark_high array_rules label_column label_at diagonal_column diagonal_at parity_position data_position user_column user_row user_region user_tuple user_cell user_outer inner_of lost place_of four_of part_of start_of cell_start list_of sum_at zero_below tuple_sets_of sets_of outer_starts inner_starts tuple_set_starts set_starts set_zero bad_below lowest_bad found_below audit_of audit_rules
audits = audit_step pairs rows good good (Ok (record { bad = 0; lowest = 0 })) refl

by_numbers : History pairs rows events good
by_numbers =
    let h1 : History pairs rows _ first = more _ zeros (start any zeros formats) _ first writes in
    let h2 : History pairs rows _ gone = more _ gone (more _ first h1 _ gone loses) _ gone refused_write in
    let h3 : History pairs rows _ second = more _ second (more _ gone h2 _ second writes_beside) _ second refused_read in
    let h4 : History pairs rows _ good = more _ hit (more _ second h3 _ hit hits_again) _ good rebuilds in
    let h5 : History pairs rows _ three = more _ good (more _ good h4 _ good reads) _ three loses_others in
    more _ good (more _ three (more _ three h5 _ three refused_range) _ good rebuilds_again) _ good audits

keeps : Keeps pairs rows events good
keeps = every_history_keeps_its_ideal pairs rows events good by_numbers

is_ideal : left ≡ keeps.ideal
unfolding disks_of
is_ideal = nothing_marked pairs rows good events keeps refl

pub a_history_by_numbers : AHistoryByNumbers
a_history_by_numbers =
    record {
      history = by_numbers;
      ideal = subst (Ideal pairs rows events) (sym is_ideal) keeps.is_ideal;
      unit_0 = (refl, refl);
      unit_13 = (refl, refl);
      unit_17 = refl;
    }
