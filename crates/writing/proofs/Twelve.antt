-- The answers of 12, case by case: "first marked disk of data, outer, inner of data, inner of outer". Assumes nothing.
use Prim.Native.Nat.{ℕ}
use mathlib.Core.Path.{◌≡◌}
use mathlib.Core.Bool.{true, false}
use mathlib.Core.List.{List, [], ◌∷◌}
use Rattle.refusal.specs.Refusal.{refused, accepted, verdict}
use Rattle.geometry.specs.declared.Geometry.{Geometry}
use Rattle.layout.specs.declared.Four.{Four}
use Rattle.layout.specs.Marks.{lost}
use Rattle.writing.specs.Writing.{four_lost, first_lost}
use Rattle.writing.proofs.Reasons.{twelfth}

module _ (G : Geometry) (marks : List ℕ) (f : Four) where
  pub user_lost : lost G marks f.user ≡ true → refused 12 f.user.disk.0 ≡ verdict (twelfth G marks f ∷ [])
  unfolding four_lost first_lost
  user_lost e = rw e

  module _ (no-user : lost G marks f.user ≡ false) where
    pub outer_lost : lost G marks f.outer ≡ true → refused 12 f.outer.disk.0 ≡ verdict (twelfth G marks f ∷ [])
    unfolding four_lost first_lost
    outer_lost e = rw (no-user, e)

    module _ (no_outer : lost G marks f.outer ≡ false) where
      pub inner_lost : lost G marks f.inner ≡ true → refused 12 f.inner.disk.0 ≡ verdict (twelfth G marks f ∷ [])
      unfolding four_lost first_lost
      inner_lost e = rw (no-user, no_outer, e)

      module _ (no_inner : lost G marks f.inner ≡ false) where
        pub both_lost : lost G marks f.both ≡ true → refused 12 f.both.disk.0 ≡ verdict (twelfth G marks f ∷ [])
        unfolding four_lost first_lost
        both_lost e = rw (no-user, no_outer, no_inner, e)

        pub none_lost : lost G marks f.both ≡ false → accepted tt ≡ verdict (twelfth G marks f ∷ [])
        unfolding four_lost first_lost
        none_lost e = rw (no-user, no_outer, no_inner, e)
