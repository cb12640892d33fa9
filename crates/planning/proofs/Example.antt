-- The plan's refusals by number: antt computes each. Assumes nothing.
use mathlib.Core.Path.{refl}
use Rattle.counting.specs.Counting.{count_below, lowest}
use Rattle.geometry.specs.Geometry.{beyond_limits, r_of, b_of, whole, no_divisor_below, sizes_allowed, disks_of, parts_of}
use Rattle.design.specs.Design.{group_at, names}
use Rattle.checking.specs.Rules.{row_bad, rows_with, pair_bad, design_rules}
use Rattle.sizes.specs.Sizes.{sizes_rules}
use Rattle.planning.specs.Plan.{triples_of, plan_rules}
use Rattle.planning.specs.Example.{PlansByNumber}

pub plans_by_number : PlansByNumber
unfolding count_below lowest beyond_limits r_of b_of whole no_divisor_below sizes_allowed disks_of parts_of group_at names row_bad rows_with pair_bad design_rules sizes_rules triples_of plan_rules
plans_by_number = record { fourteen = refl; enough = refl; nine = refl }
