-- What the passes reach is the least closed set, a set named without any order of visits; what they don't reach lacks two
-- units in each of its sets. Assumes nothing.
use Prim.Native.Nat.{ℕ, ◌<◌}
use mathlib.Core.Path.{◌≡◌, subst}
use mathlib.Core.Bool.{Bool, true, false}
use mathlib.Core.Logic.{◌⊎◌, inl, inr, ⊎_elim}
use mathlib.Core.List.{List, [], ◌∷◌}
use Rattle.counting.proofs.Bools.{bool_either, bool_not_both}
use Rattle.peeling.specs.Peeling.{Side, Step, restored, present_after, peeled}
use Rattle.peeling.specs.Theorems.{SomeRest, Closed, Reached, ThePassesReachTheLeastClosedSet}
use Rattle.peeling.proofs.Sides.{
  Every,
  LacksAnother,
  some_among,
  lacks_only_rest,
  some_rest_lacks_only,
  every_lacks_another,
}
use Rattle.peeling.proofs.Histories.{
  Valid,
  Idle,
  peeled_valid,
  present_from_start,
  present_restored,
  present_either,
  restored_none,
  restored_either,
}
use Rattle.peeling.proofs.Passes.{still_idle, the_last_pass_restores_nothing}

module _ (start : ℕ → Bool) (sides : ℕ → List Side) (n : ℕ) where
  -- the steps stay inside every closed set
  pub valid_in_closed :
      (R : ℕ → Type 0) → Closed start sides n R → (ss : List Step) → Valid start sides n ss →
      (x : ℕ) → present_after start ss x ≡ true → R x
  valid_in_closed R c [] v x h = ⊎_elim (c.from_start x) (restored_none x) (present_either start [] x h)
  valid_in_closed R c (s ∷ ss) (f, v) x h =
      ⊎_elim (c.from_start x)
      (λ (r : restored (s ∷ ss) x ≡ true).
      ⊎_elim (here (valid_in_closed R c ss v))
      (λ (b : restored ss x ≡ true). valid_in_closed R c ss v x (present_restored start ss x b))
      (restored_either s ss x r))
      (present_either start (s ∷ ss) x h)
    where
      here : ((y : ℕ) → present_after start ss y ≡ true → R y) → s.cell ≡ x → R x
      here before e =
          subst R e
          (c.closed s.cell f.below
          (some_among R (sides s.cell) s.side f.among
          (λ q l ne. before (s.side.member q) (lacks_only_rest (present_after start ss) s.side f.lacks q l ne))))

  at_the_end : (x : ℕ) → x < n → Idle start sides n x (peeled start sides n)
  at_the_end = still_idle start sides n (peeled start sides n) (the_last_pass_restores_nothing start sides n)

  reached_closed : Closed start sides n (Reached start sides n)
  reached_closed =
      record {
        from_start = present_from_start start (peeled start sides n);
        closed = each;
      }
    where
      each : (x : ℕ) → x < n → SomeRest (Reached start sides n) (sides x) → Reached start sides n x
      each x l some =
          ⊎_elim (λ (h : present_after start (peeled start sides n) x ≡ true). h)
          (λ none. some_rest_lacks_only (present_after start (peeled start sides n)) (sides x) none some) (at_the_end x l)

  -- a cell that is not reached: each of its sets lacks another unit too
  pub not_reached_lacks_another :
      (x : ℕ) → x < n → present_after start (peeled start sides n) x ≡ false →
      Every (LacksAnother (present_after start (peeled start sides n))) (sides x)
  not_reached_lacks_another x l h =
      ⊎_elim (λ (e : present_after start (peeled start sides n) x ≡ true). bool_not_both _ e h)
      (every_lacks_another (present_after start (peeled start sides n)) (sides x)) (at_the_end x l)

  -- it is decided which
  pub reached_or_lacks_another :
      (x : ℕ) → x < n →
      Reached start sides n x
      ⊎ ((present_after start (peeled start sides n) x ≡ false)
      × Every (LacksAnother (present_after start (peeled start sides n))) (sides x))
  reached_or_lacks_another x l =
      ⊎_elim (λ (h : Reached start sides n x). inl h)
      (λ (h : present_after start (peeled start sides n) x ≡ false). inr (h, not_reached_lacks_another x l h))
      (bool_either (present_after start (peeled start sides n) x))

pub the_passes_reach_the_least_closed_set : ThePassesReachTheLeastClosedSet
the_passes_reach_the_least_closed_set start sides n =
    record {
      closed = reached_closed start sides n;
      least =
          λ (R : ℕ → Type 0) (c : Closed start sides n R).
          valid_in_closed start sides n R c (peeled start sides n) (peeled_valid start sides n);
    }

-- with more present at the start, what was reached is reached
pub more_present_reaches_more :
    (start start' : ℕ → Bool) (sides : ℕ → List Side) (n : ℕ) → ((x : ℕ) → start x ≡ true → start' x ≡ true) →
    (x : ℕ) → Reached start sides n x → Reached start' sides n x
more_present_reaches_more start start' sides n more =
    valid_in_closed start sides n (Reached start' sides n)
    (record { from_start = λ x h. there.from_start x (more x h); closed = there.closed })
    (peeled start sides n) (peeled_valid start sides n)
  where
    there : Closed start' sides n (Reached start' sides n)
    there = reached_closed start' sides n
