-- A tuple with at most one group of two or more lost disks completes. Assumes nothing.
use Prim.Native.Nat.{ℕ, ◌<◌}
use mathlib.Core.Bool.{Bool}
use Rattle.counting.proofs.Bools.{not_is_false}
use Rattle.counting.proofs.Laws.{none_any}
use Rattle.peeling.specs.Theorems.{Reached}
use Rattle.peeling.proofs.Theorems.{the_passes_reach_the_least_closed_set}
use Rattle.reaching.specs.Reach.{tuple_cells_of, sides_of, here_of, steps_of, incomplete}
use Rattle.reaching.proofs.Numbers.{the_cells_of_a_tuple_are_numbered}
use Rattle.completing.specs.Theorems.{OneHeavyGroupCompletes}
use Rattle.completing.proofs.Closing.{every_number}
use Rattle.completing.proofs.Groups.{heavy_position, others_light}

pub one_heavy_group_completes : OneHeavyGroupCompletes
unfolding steps_of incomplete
one_heavy_group_completes G d marks L t ht one = none_any _ (tuple_cells_of G) (λ n h. not_is_false _ (reached n h))
  where
    start : ℕ → Bool
    start = here_of G d marks t

    reached : (n : ℕ) → n < tuple_cells_of G → Reached start (sides_of G t) (tuple_cells_of G) n
    reached =
        every_number G d marks L t ht (the_cells_of_a_tuple_are_numbered G d L t ht)
        (Reached start (sides_of G t) (tuple_cells_of G))
        (the_passes_reach_the_least_closed_set start (sides_of G t) (tuple_cells_of G)).closed (heavy_position G d marks t)
        (others_light G d marks t one)
