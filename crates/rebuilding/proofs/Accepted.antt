-- What an accepted rebuild leaves, and losses that it accepts, over the contract of `rebuild` itself. Assumes nothing.
use Prim.Native.Nat.{ℕ, ◌*◌, ◌≤◌, ◌<◌}
use mathlib.Core.Path.{◌≡◌, sym, ap, ◌∙◌}
use mathlib.Core.Bool.{false}
use mathlib.Core.List.{List, [], ◌∷◌, ◌++◌}
use lib.ListN.{length, replicate}
use contract.Lifetimes.{Lfts}
use denote.Ref.{Bor, MutBor}
use Rattle.counting.proofs.Laws.{any_none, none_any}
use Rattle.refusal.specs.Refusal.{accepted, answer, verdict}
use Rattle.refusal.specs.Due.{NoneDue}
use Rattle.refusal.proofs.Answer.{next, skip, quiet_append, quiet_accepted, accepted_quiet}
use Rattle.refusal.proofs.Exactness.{exact}
use Rattle.geometry.specs.declared.Geometry.{Geometry}
use Rattle.geometry.specs.Geometry.{tuples_of, disks_of, units_of, bytes_of}
use Rattle.array.specs.Array.{formatted_marks}
use Rattle.array.specs.Rules.{array_rules}
use Rattle.array.specs.Reasons.{array_rows}
use Rattle.array.proofs.Fits.{ready}
use Rattle.array.proofs.Reasons.{array_rows_fit}
use Rattle.consistent.specs.Consistent.{Consistent}
use Rattle.reaching.specs.Reach.{incomplete}
use Rattle.completing.specs.Theorems.{lost_disks, lost_in_group}
use Rattle.completing.proofs.Theorems.{three_lost_disks_are_rebuilt, a_group_and_one_disk_of_each_other_are_rebuilt}
use Rattle.rebuilding.specs.Rebuild.{restored_of, tuple_rule, rebuild_rules}
use Rattle.rebuilding.specs.Theorems.{Complete, SamePresent, PresentStay}
use Rattle.rebuilding.proofs.Theorems.{
  units_of_present_disks_stay,
  the_count_is_of_the_units_on_lost_disks,
  consistent_arrays_come_back,
}
use Rattle.rebuilding.proofs.TwoResults.{Allowed, rebuild_accepted}
use Rattle.refusal.proofs.Same.{same_answer}
use Rattle.std.specs.Prelude.{Result, Ok}
use Rattle.refusal.specs.declared.Refusal.{Refusal}

module _ (G : Geometry) (d a marks : List ℕ) where
  -- what 2 to 8 and 13 let through
  let_through : (n : ℕ) → answer (rebuild_rules G d (length a) marks) (restored_of G d marks) ≡ accepted n → Complete G d marks a
  unfolding rebuild_rules
  let_through n e =
      let all = accepted_quiet (array_rules G d (length a) marks ++ (tuple_rule G d marks ∷ [])) (restored_of G d marks) n e in
      let q = quiet_append (array_rules G d (length a) marks) (tuple_rule G d marks ∷ []) all in
      let h = ready G d (length a) marks (quiet_accepted (array_rules G d (length a) marks) tt q.0) in
      record {
        laid = h.laid;
        whole = h.whole;
        complete = any_none (incomplete G d marks) (tuples_of G) q.1.0;
      }

  -- none of 2 to 8 is due
  module _ (none : NoneDue (array_rows G d (length a) marks)) where
    fine : verdict (array_rules G d (length a) marks) ≡ accepted tt
    fine =
        ((exact (array_rules G d (length a) marks) (array_rows G d (length a) marks) tt (array_rows_fit G d (length a) marks)
        ).acceptance.1 none).1

    module _ (complete : (t : ℕ) → t < tuples_of G → incomplete G d marks t ≡ false) where
      lets_through : answer (rebuild_rules G d (length a) marks) (restored_of G d marks) ≡ accepted (restored_of G d marks)
      unfolding rebuild_rules
      lets_through =
          skip (array_rules G d (length a) marks) (tuple_rule G d marks ∷ []) (restored_of G d marks) fine
          ∙ next (tuple_rule G d marks) [] (restored_of G d marks) (none_any (incomplete G d marks) (tuples_of G) complete)

      counted : answer (rebuild_rules G d (length a) marks) (restored_of G d marks) ≡ accepted (lost_disks G marks * units_of G)
      counted =
          lets_through
          ∙ ap accepted (the_count_is_of_the_units_on_lost_disks G d marks a (let_through (restored_of G d marks) lets_through))

-- ---- what an accepted rebuild leaves
module _ (κs : Lfts 3) (G : Geometry) (design : Bor (List ℕ)) (array marks : MutBor (List ℕ)) (n : ℕ) (x m : MutBor (List ℕ))
    (p : Allowed κs G design array marks (Ok n) x m) where
  pub accepted_complete : Complete G design.now marks.now array.now
  accepted_complete = let_through G design.now array.now marks.now n (sym p.0)

  -- "Units of present disks don't change."
  pub accepted_present : PresentStay G marks.now array.now x.now
  accepted_present =
      rw (rebuild_accepted κs G design array marks n x m p).1
      (units_of_present_disks_stay G design.now marks.now array.now accepted_complete)

  -- "the count of restored units is returned, which is the number of units on lost disks"
  pub accepted_count : n ≡ lost_disks G marks.now * units_of G
  accepted_count =
      (rebuild_accepted κs G design array marks n x m p).0
      ∙ the_count_is_of_the_units_on_lost_disks G design.now marks.now array.now accepted_complete

  -- "marks become 0"
  pub accepted_marks : m.now ≡ replicate (disks_of G) 0
  unfolding formatted_marks
  accepted_marks = (rebuild_accepted κs G design array marks n x m p).2

  -- a consistent array comes back as it was before the loss, whatever the lost disks held
  pub accepted_comes_back :
      (before : List ℕ) → length before ≡ bytes_of G → Consistent G design.now before → SamePresent G marks.now before array.now
      → x.now ≡ before
  accepted_comes_back before long c same =
      (rebuild_accepted κs G design array marks n x m p).1
      ∙ consistent_arrays_come_back G design.now marks.now before array.now accepted_complete long c same

-- ---- losses that are accepted, where none of 2 to 8 is due
module _ (κs : Lfts 3) (G : Geometry) (design : Bor (List ℕ)) (array marks : MutBor (List ℕ))
    (none : NoneDue (array_rows G design.now (length array.now) marks.now)) (r : Result ℕ Refusal) (x m : MutBor (List ℕ))
    (p : Allowed κs G design array marks r x m) where
  complete_accepted :
      ((t : ℕ) → t < tuples_of G → incomplete G design.now marks.now t ≡ false)
      → r ≡ Ok (lost_disks G marks.now * units_of G)
  complete_accepted complete =
      same_answer r (Ok (lost_disks G marks.now * units_of G))
      (p.0 ∙ counted G design.now array.now marks.now none complete)

  -- "at most three disks lost at a time"
  pub three_accepted : lost_disks G marks.now ≤ 3 → r ≡ Ok (lost_disks G marks.now * units_of G)
  three_accepted h =
      complete_accepted
      (three_lost_disks_are_rebuilt G design.now marks.now
      (ready G design.now (length array.now) marks.now (fine G design.now array.now marks.now none)).laid h)

  -- "Nine disks, group 0 and the first of each other group, are rebuilt"
  pub group_accepted :
      (heavy : ℕ) → ((a : ℕ) → a < G.v → (a ≡ heavy → ⊥) → lost_in_group G marks.now a ≤ 1)
      → r ≡ Ok (lost_disks G marks.now * units_of G)
  group_accepted heavy h =
      complete_accepted
      (a_group_and_one_disk_of_each_other_are_rebuilt G design.now marks.now
      (ready G design.now (length array.now) marks.now (fine G design.now array.now marks.now none)).laid heavy h)
