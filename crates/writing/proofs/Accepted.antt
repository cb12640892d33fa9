-- What an accepted write leaves, over the contracts of `write` and `read` themselves. Assumes nothing.
use Prim.Native.Nat.{ℕ, ◌<◌}
use mathlib.Core.Path.{◌≡◌, refl, sym, ◌∙◌}
use mathlib.Core.Bool.{true, false}
use mathlib.Core.List.{List, [], ◌∷◌, ◌++◌}
use lib.ListN.{length}
use contract.Lifetimes.{Lfts}
use denote.Ref.{Bor, MutBor, as_bor}
use Rattle.counting.proofs.Bools.{bool_not_both}
use Rattle.refusal.specs.Refusal.{Rule, rule, accepted, verdict}
use Rattle.refusal.proofs.Answer.{next, skip, accepted_append, accepted_quiet}
use Rattle.refusal.proofs.Firsts.{never_true}
use Rattle.refusal.proofs.Same.{same_answer}
use Rattle.geometry.specs.declared.Geometry.{Geometry}
use Rattle.geometry.specs.declared.UserUnit.{UserUnit}
use Rattle.geometry.specs.Geometry.{user_units_of}
use Rattle.layout.specs.Places.{four_of}
use Rattle.layout.specs.Marks.{lost}
use Rattle.array.specs.Rules.{array_rules, range_rules}
use Rattle.array.proofs.Fits.{ready}
use Rattle.array.proofs.Range.{ranged}
use Rattle.array.proofs.Kept.{kept_new}
use Rattle.consistent.specs.Consistent.{Consistent}
use Rattle.reading.specs.Reading.{read_of, read_rules}
use Rattle.reading.proofs.TwoResults as read
use Rattle.writing.specs.Writing.{four_lost, write_rules}
use Rattle.fourfold.specs.Theorems.{Range, SameDifference}
use Rattle.writing.proofs.Reasons.{twelfth, names_user}
use Rattle.fourfold.proofs.WrittenSets.{a_write_keeps_a_consistent_array_consistent}
use Rattle.fourfold.proofs.Theorems.{a_write_puts_one_difference_into_four_units, a_read_after_a_write}
use Rattle.fourfold.proofs.Theorems.{other_user_units_keep_their_bytes}
use Rattle.writing.proofs.TwoResults.{Allowed, write_accepted}
use Rattle.std.specs.Prelude.{Result, Ok}
use Rattle.refusal.specs.declared.Refusal.{Refusal}

-- ---- none of the write's rules refuses
module _ (G : Geometry) (d : List ℕ) (bytes : ℕ) (marks : List ℕ) (m o n : ℕ)
    (fine : verdict (write_rules G d bytes marks m o n) ≡ accepted tt) where
  abbrev rest : List Rule
  rest = twelfth G marks (four_of G d m) ∷ []

  parts : (verdict (array_rules G d bytes marks) ≡ accepted tt) × (verdict (range_rules G m o n ++ rest) ≡ accepted tt)
  unfolding write_rules
  parts = accepted_append (array_rules G d bytes marks) (range_rules G m o n ++ rest) fine

  in_range : verdict (range_rules G m o n) ≡ accepted tt
  in_range = (accepted_append (range_rules G m o n) rest parts.1).0

  user_there : lost G marks (four_of G d m).user ≡ false
  user_there =
      let none = (accepted_quiet rest tt tt (accepted_append (range_rules G m o n) rest parts.1).1).0 in
      never_true (lost G marks (four_of G d m).user)
      (λ (e : lost G marks (four_of G d m).user ≡ true).
      bool_not_both (four_lost G marks (four_of G d m)) (names_user G marks (four_of G d m) e).0 none)

  -- so a read of the range is accepted too
  read_fine : verdict (read_rules G d bytes marks m o n) ≡ accepted tt
  unfolding read_rules
  read_fine =
      skip (array_rules G d bytes marks) (range_rules G m o n ++ (twelve ∷ [])) tt parts.0
      ∙ skip (range_rules G m o n) (twelve ∷ []) tt in_range ∙ next twelve [] tt user_there
    where
      twelve : Rule
      twelve = rule 12 (lost G marks (four_of G d m).user) (four_of G d m).user.disk.0

  fine_range : (a : List ℕ) → length a ≡ bytes → Range G d a m o n
  fine_range a e =
      let h = ready G d bytes marks parts.0 in
      let r = ranged G m o n in_range in
      record { laid = h.laid; whole = e ∙ h.whole; user = r.user; inside = r.inside }

module _ (κs : Lfts 4) (G : Geometry) (design : Bor (List ℕ)) (array : MutBor (List ℕ)) (marks : Bor (List ℕ)) (n : UserUnit) (offset : ℕ)
    (bytes : Bor (List ℕ)) (x : MutBor (List ℕ)) (p : Allowed κs G design array marks n offset bytes (Ok tt) x) where
  range : Range G design.now array.now n.0 offset (length bytes.now)
  range =
      fine_range G design.now (length array.now) marks.now n.0 offset (length bytes.now) (sym p.0) array.now refl

  -- "puts the same byte difference into one data and three parity units and touches nothing else"
  pub accepted_difference : SameDifference G design.now array.now x.now n.0 offset bytes.now
  accepted_difference =
      rw (write_accepted κs G design array marks n offset bytes x p)
      (a_write_puts_one_difference_into_four_units G design.now array.now n.0 offset bytes.now range)

  -- other user units keep theirs
  pub accepted_others :
      (w : ℕ) → w < user_units_of G → (w ≡ n.0 → ⊥) →
      read_of G design.now x.now w 0 G.u ≡ read_of G design.now array.now w 0 G.u
  accepted_others w l e =
      rw (write_accepted κs G design array marks n offset bytes x p)
      (other_user_units_keep_their_bytes G design.now array.now n.0 offset bytes.now range w l e)

  -- a consistent array stays consistent
  pub accepted_consistent : Consistent G design.now array.now → Consistent G design.now x.now
  accepted_consistent c =
      rw (write_accepted κs G design array marks n offset bytes x p)
      (a_write_keeps_a_consistent_array_consistent G design.now array.now n.0 offset bytes.now range c)

  -- after a write a read of the range is accepted and gives the written bytes
  module _ (ρs : Lfts 4) (out : MutBor (List ℕ)) (long : length out.now ≡ length bytes.now) where
    reads : verdict (read_rules G design.now (length x.now) marks.now n.0 offset (length out.now)) ≡ accepted tt
    reads =
        rw (accepted_difference.long, long)
        (read_fine G design.now (length array.now) marks.now n.0 offset (length bytes.now) (sym p.0))

    gives : read_of G design.now x.now n.0 offset (length out.now) ≡ bytes.now
    gives =
        rw (write_accepted κs G design array marks n offset bytes x p, long)
        (a_read_after_a_write G design.now array.now n.0 offset bytes.now range)

    pub read_after_write :
        (r : Result (Unit {0}) Refusal) (y : MutBor (List ℕ)) → read.Allowed ρs G design (as_bor x) marks n offset out r y → (r ≡ (Ok tt)) × (y.now ≡ bytes.now)
    read_after_write r y q = (
      same_answer r (Ok tt) (q.0 ∙ reads),
      q.1 ∙ sym (kept_new _ tt (read_of G design.now x.now n.0 offset (length out.now)) out.now reads) ∙ gives,
    )
