-- "That two results allowed by it are equal is itself proved", "refusals come exactly as tabled" (01), over the contract of
-- `write` itself; and some result is allowed. Assumes nothing.
use Prim.Native.Nat.{ℕ}
use mathlib.Core.Path.{◌≡◌, refl, sym, ◌∙◌}
use mathlib.Core.List.{List, [], ◌∷◌, ◌++◌}
use lib.ListN.{length}
use contract.Lifetimes.{Lfts}
use denote.Ref.{Bor, MutBor, at_last}
use Rattle.refusal.specs.declared.Refusal.{Refusal}
use Rattle.refusal.specs.Refusal.{Outcome, verdict, kept, outcome_of}
use Rattle.refusal.specs.Due.{Exact}
use Rattle.refusal.proofs.Same.{same_answer, AllTabled, tabled_append, some_answer}
use Rattle.geometry.specs.declared.Geometry.{Geometry}
use Rattle.geometry.specs.declared.UserUnit.{UserUnit}
use Rattle.array.proofs.Kept.{kept_old, kept_new}
use Rattle.array.proofs.TwoResults.{array_tabled, range_tabled}
use Rattle.fourfold.specs.Writing.{write_of}
use Rattle.writing.specs.Writing.{write_rules}
use Rattle.writing.specs.Reasons.{write_rows}
use Rattle.writing.proofs.Reasons.{twelfth, write_exact}
use Rattle.writing.proofs.write.Reads as write
use Rattle.std.specs.Prelude.{Result, Ok, Err}
use Rattle.refusal.specs.declared.Refusal.TheVariants.{Marked}
use Rattle.refusal.specs.Refusal.{number_of, place_of}
use Rattle.layout.specs.Places.{four_of}
use Rattle.array.specs.Rules.{array_rules, range_rules}
use Rattle.writing.specs.Writing.{first_lost}

-- each of its rules is a row of the table
write_tabled :
    (G : Geometry) (d : List ℕ) (bytes : ℕ) (marks : List ℕ) (m o n : ℕ) → AllTabled (write_rules G d bytes marks m o n)
unfolding write_rules
write_tabled G d bytes marks m o n =
    let first = Marked (record { 0 = first_lost G marks (four_of G d m) }) in
    let four = twelfth G marks (four_of G d m) ∷ [] in
    tabled_append (array_rules G d bytes marks) (range_rules G m o n ++ four) (array_tabled G d bytes marks)
    (tabled_append (range_rules G m o n) four (range_tabled G m o n) ((first, refl, refl), tt))

module _ (κs : Lfts 4) (G : Geometry) (design : Bor (List ℕ)) (array : MutBor (List ℕ)) (marks : Bor (List ℕ)) (n : UserUnit) (offset : ℕ)
    (bytes : Bor (List ℕ)) where
  abbrev answered : Outcome (Unit {0})
  answered = verdict (write_rules G design.now (length array.now) marks.now n.0 offset (length bytes.now))

  abbrev new : List ℕ
  new = write_of G design.now array.now n.0 offset bytes.now

  -- what the contract allows to be answered, and to be held by the array at return
  abbrev pub Allowed : Result (Unit {0}) Refusal → MutBor (List ℕ) → Type 0
  Allowed r last =
      write.Post κs (G, (design, (array, (marks, (n, (offset, (bytes, tt))))))) r
      (G, (design, (last, (marks, (n, (offset, (bytes, tt)))))))

  pub two_results : (r s : Result (Unit {0}) Refusal) (x y : MutBor (List ℕ)) → Allowed r x → Allowed s y → (r ≡ s) × (x.now ≡ y.now)
  two_results r s x y p q = (same_answer r s (p.0 ∙ sym q.0), p.1 ∙ sym q.1)

  pub some_result : (r : Result (Unit {0}) Refusal) × (x : MutBor (List ℕ)) × Allowed r x
  some_result = let w =
      some_answer (write_rules G design.now (length array.now) marks.now n.0 offset (length bytes.now)) tt
      (write_tabled G design.now (length array.now) marks.now n.0 offset (length bytes.now))
      in (w.0, at_last array (kept answered new array.now), (w.1, refl))

  pub write_is_exact :
      (r : Result (Unit {0}) Refusal) (x : MutBor (List ℕ)) → Allowed r x →
      Exact (write_rows G design.now (length array.now) marks.now n.0 offset (length bytes.now)) (outcome_of r)
  write_is_exact r x p =
      rw p.0 (write_exact G design.now (length array.now) marks.now n.0 offset (length bytes.now) tt)

  -- an accepted write leaves the array with its difference in the four units
  pub write_accepted : (x : MutBor (List ℕ)) → Allowed (Ok tt) x → x.now ≡ new
  write_accepted x p = p.1 ∙ sym (kept_new answered tt new array.now (sym p.0))

  -- a refused one leaves it as it was: "every lent byte stays"
  pub write_refused : (e : Refusal) (x : MutBor (List ℕ)) → Allowed (Err e) x → x.now ≡ array.now
  write_refused e x p = p.1 ∙ sym (kept_old answered (number_of e) (place_of e) new array.now (sym p.0))
