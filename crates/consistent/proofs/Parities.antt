-- Every set by its number XORs to zero exactly if both parities hold for every label and every diagonal. Assumes nothing.
use Prim.Native.Nat.{ℕ}
use mathlib.Core.Path.{◌≡◌, subst}
use mathlib.Core.Bool.{true}
use mathlib.Core.List.{List}
use Rattle.geometry.specs.declared.Geometry.{Geometry}
use Rattle.geometry.specs.Geometry.{Sound}
use Rattle.numbering.specs.Numbering.{outer_number, inner_number}
use Rattle.numbering.specs.Ranges.{OuterIn, InnerIn}
use Rattle.numbering.proofs.Theorems.{sets_are_numbered}
use Rattle.leaves.specs.Bytes.{sum_at, zero_sum}
use Rattle.leaves.proofs.Zeros.{zero_is, zero_holds}
use Rattle.consistent.specs.Consistent.{outer_starts, inner_starts, set_zero, Consistent}
use Rattle.consistent.specs.Theorems.{BothParities, ConsistentMeansBothParities}
use Rattle.consistent.proofs.Numbers.{set_starts_outer, set_starts_inner, every_set}

module _ (G : Geometry) (s : Sound G) (d a : List ℕ) where
  -- the runs from the positions XOR to zero
  abbrev Zero : List ℕ → Type 0
  Zero ps = zero_sum a ps G.u ≡ true

  outer_zero : Consistent G d a → (t i c : ℕ) → OuterIn G t i c → Zero (outer_starts G d t i c)
  unfolding set_zero
  outer_zero h t i c v =
      subst Zero (set_starts_outer G s d t i c v) (h (outer_number G t i c) ((sets_are_numbered G s).outer_low t i c v))

  inner_zero : Consistent G d a → (t l j : ℕ) → InnerIn G t l j → Zero (inner_starts G d t l j)
  unfolding set_zero
  inner_zero h t l j v =
      subst Zero (set_starts_inner G s d t l j v) (h (inner_number G t l j) ((sets_are_numbered G s).inner_low t l j v))

  pub both_parities : Consistent G d a → BothParities G d a
  both_parities h =
      record {
        outer = λ t i c v. zero_holds (sum_at a (outer_starts G d t i c)) G.u (outer_zero h t i c v);
        inner = λ t l j v. zero_holds (sum_at a (inner_starts G d t l j)) G.u (inner_zero h t l j v);
      }

  pub parities_consistent : BothParities G d a → Consistent G d a
  unfolding set_zero
  parities_consistent h =
      every_set G s d Zero (λ t i c v. zero_is (sum_at a (outer_starts G d t i c)) G.u (h.outer t i c v))
      (λ t l j v. zero_is (sum_at a (inner_starts G d t l j)) G.u (h.inner t l j v))

pub consistent_means_both_parities : ConsistentMeansBothParities
consistent_means_both_parities G s d a = (both_parities G s d a, parities_consistent G s d a)
