-- "That two results allowed by it are equal is itself proved" (01), over the contracts of the calls themselves; and some
-- result is allowed. Assumes nothing.
use Prim.Native.Nat.{ℕ}
use mathlib.Core.Path.{◌≡◌, refl, sym, ◌∙◌}
use mathlib.Core.List.{List}
use lib.ListN.{length}
use contract.Lifetimes.{Lfts}
use denote.Ref.{Bor, MutBor, at_last}
use Rattle.refusal.specs.Refusal.{Outcome, refused, accepted, verdict, kept, outcome_of}
use Rattle.refusal.proofs.Same.{same_answer, AllTabled, tabled_append, some_answer}
use Rattle.geometry.specs.declared.Geometry.{Geometry}
use Rattle.array.specs.Array.{formatted_array, formatted_marks}
use Rattle.array.specs.Rules.{array_rules}
use Rattle.array.proofs.check_array.Reads as check
use Rattle.array.proofs.format.Reads as format
use Rattle.std.specs.Prelude.{Result, Ok, Err}
use Rattle.refusal.specs.declared.Refusal.{Refusal}
use Rattle.refusal.specs.declared.Refusal.TheVariants.{WrongLength, HighMark, UserUnitTooHigh, LeavesUnit}
use Rattle.counting.specs.Counting.{lowest}
use Rattle.sizes.specs.Sizes.{sizes_rules}
use Rattle.sizes.proofs.TwoResults.{sizes_tabled}
use Rattle.array.specs.Rules.{mark_high, range_rules}

-- each of their rules is a row of the table
pub array_tabled : (G : Geometry) (d : List ℕ) (bytes : ℕ) (marks : List ℕ) → AllTabled (array_rules G d bytes marks)
unfolding array_rules
array_tabled G d bytes marks =
    let high = HighMark (record { 0 = lowest (mark_high marks) (length marks) }) in
    tabled_append (sizes_rules G d) _ (sizes_tabled G d) ((WrongLength, refl, refl), ((high, refl, refl), tt))

pub range_tabled : (G : Geometry) (m o n : ℕ) → AllTabled (range_rules G m o n)
range_tabled G m o n = ((UserUnitTooHigh, refl, refl), ((LeavesUnit, refl, refl), tt))

-- what the contracts allow to be answered, and to be held by the array and the marks at return
abbrev pub CheckAllowed : Lfts 2 → Geometry → Bor (List ℕ) → ℕ → Bor (List ℕ) → Result (Unit {0}) Refusal → Type 0
CheckAllowed κs G design bytes marks r =
    check.Post κs (G, (design, (bytes, (marks, tt)))) r (G, (design, (bytes, (marks, tt))))

abbrev pub FormatAllowed :
    Lfts 3 → Geometry → (design : Bor (List ℕ)) → (array marks : MutBor (List ℕ)) → Result (Unit {0}) Refusal → (a m : MutBor (List ℕ)) → Type 0
FormatAllowed κs G design array marks r a m =
    format.Post κs (G, (design, (array, (marks, tt)))) r (G, (design, (a, (m, tt))))

module _ (κs : Lfts 2) (G : Geometry) (design : Bor (List ℕ)) (bytes : ℕ) (marks : Bor (List ℕ)) where
  pub check_two_results :
      (r s : Result (Unit {0}) Refusal) → CheckAllowed κs G design bytes marks r → CheckAllowed κs G design bytes marks s → r ≡ s
  check_two_results r s p q = same_answer r s (p ∙ sym q)

  pub check_some_result : (r : Result (Unit {0}) Refusal) × CheckAllowed κs G design bytes marks r
  check_some_result = some_answer (array_rules G design.now bytes marks.now) tt (array_tabled G design.now bytes marks.now)

module _ (κs : Lfts 3) (G : Geometry) (design : Bor (List ℕ)) (array marks : MutBor (List ℕ)) where
  pub format_two_results :
      (r s : Result (Unit {0}) Refusal) (a b m n : MutBor (List ℕ)) →
      FormatAllowed κs G design array marks r a m → FormatAllowed κs G design array marks s b n →
      (r ≡ s) × (a.now ≡ b.now) × (m.now ≡ n.now)
  format_two_results r s a b m n p q =
      (same_answer r s (p.0 ∙ sym q.0), p.1 ∙ sym q.1, p.2 ∙ sym q.2)

  pub format_some_result :
      (r : Result (Unit {0}) Refusal) × (a : MutBor (List ℕ)) × (m : MutBor (List ℕ)) × FormatAllowed κs G design array marks r a m
  format_some_result =
      let o = verdict (array_rules G design.now (length array.now) marks.now) in
      let w =
      some_answer (array_rules G design.now (length array.now) marks.now) tt
      (array_tabled G design.now (length array.now) marks.now)
      in (
        w.0,
        at_last array (kept o (formatted_array G) array.now),
        at_last marks (kept o (formatted_marks G) marks.now),
        (w.1, refl, refl),
      )
