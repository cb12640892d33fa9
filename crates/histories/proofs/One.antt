-- There is at most one ideal array. Assumes nothing.
use Prim.Native.Nat.{ℕ, ◌+◌, ◌≤◌, ◌<◌}
use mathlib.Core.Path.{sym, ◌∙◌}
use native.Mathlib.Omega.{arith}
use Rattle.geometry.specs.Geometry.{user_units_of, bytes_of}
use Rattle.cells.specs.Roles.{user_cell}
use Rattle.cells.proofs.Roles.{user_cell_in}
use Rattle.leaves.proofs.Runs.{bytes_run, same_bytes}
use Rattle.array.specs.Array.{cell_start}
use Rattle.array.proofs.Theorems.{each_unit_lies_in_the_array}
use Rattle.consistent.proofs.Theorems.{a_consistent_array_is_determined_by_its_user_bytes}
use Rattle.histories.specs.Theorems.{TheIdealIsOne}

pub the_ideal_is_one : TheIdealIsOne
the_ideal_is_one G d L es a b p q =
    a_consistent_array_is_determined_by_its_user_bytes G d L a b p.long q.long p.consistent q.consistent
    (λ (m : ℕ) (low : m < user_units_of G).
    let inside : cell_start G d (user_cell G m) + G.u ≤ bytes_of G =
    each_unit_lies_in_the_array G d L (user_cell G m) (user_cell_in G L.sound m low) in
    same_bytes (bytes_run a (cell_start G d (user_cell G m)) G.u (omega (arith, p.long)))
    (bytes_run b (cell_start G d (user_cell G m)) G.u (omega (arith, q.long)))
    (λ (j : ℕ) (l : j < G.u). p.user m low j l ∙ sym (q.user m low j l)))
