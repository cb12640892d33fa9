-- "That two results allowed by it are equal is itself proved", "refusals come exactly as tabled" (01), over the contract of
-- `read` itself; and some result is allowed. Assumes nothing.
use Prim.Native.Nat.{ℕ}
use mathlib.Core.Path.{◌≡◌, refl, sym, ◌∙◌}
use mathlib.Core.List.{List, [], ◌∷◌, ◌++◌}
use lib.ListN.{length}
use contract.Lifetimes.{Lfts}
use denote.Ref.{Bor, MutBor, at_last}
use Rattle.refusal.specs.Refusal.{verdict, kept, outcome_of}
use Rattle.refusal.specs.Due.{Exact}
use Rattle.refusal.proofs.Same.{same_answer, AllTabled, tabled_append, some_answer}
use Rattle.geometry.specs.declared.Geometry.{Geometry}
use Rattle.geometry.specs.declared.UserUnit.{UserUnit}
use Rattle.array.proofs.Kept.{kept_new}
use Rattle.array.proofs.TwoResults.{array_tabled, range_tabled}
use Rattle.reading.specs.Reading.{read_of, read_rules}
use Rattle.reading.specs.Reasons.{read_rows}
use Rattle.reading.proofs.Reasons.{read_exact}
use Rattle.reading.proofs.read.Reads as read
use Rattle.std.specs.Prelude.{Result, Ok}
use Rattle.refusal.specs.declared.Refusal.{Refusal}
use Rattle.refusal.specs.declared.Refusal.TheVariants.{Marked}
use Rattle.layout.specs.declared.Place.{Place}
use Rattle.layout.specs.Places.{four_of}
use Rattle.array.specs.Rules.{array_rules, range_rules}
use Rattle.reading.specs.Reading.{mark_rule}

-- each of its rules is a row of the table
pub mark_tabled : (G : Geometry) (marks : List ℕ) (p : Place) → AllTabled (mark_rule G marks p ∷ [])
mark_tabled G marks p = ((Marked p.disk, refl, refl), tt)

read_tabled :
    (G : Geometry) (d : List ℕ) (bytes : ℕ) (marks : List ℕ) (m o n : ℕ) → AllTabled (read_rules G d bytes marks m o n)
unfolding read_rules
read_tabled G d bytes marks m o n =
    let user = mark_rule G marks (four_of G d m).user ∷ [] in
    tabled_append (array_rules G d bytes marks) (range_rules G m o n ++ user) (array_tabled G d bytes marks)
    (tabled_append (range_rules G m o n) user (range_tabled G m o n) (mark_tabled G marks (four_of G d m).user))

module _ (κs : Lfts 4) (G : Geometry) (design array marks : Bor (List ℕ)) (n : UserUnit) (offset : ℕ) (out : MutBor (List ℕ)) where
  -- what the contract allows to be answered, and to be held by the buffer at return
  abbrev pub Allowed : Result (Unit {0}) Refusal → MutBor (List ℕ) → Type 0
  Allowed r last =
      read.Post κs (G, (design, (array, (marks, (n, (offset, (out, tt))))))) r
      (G, (design, (array, (marks, (n, (offset, (last, tt)))))))

  pub two_results : (r s : Result (Unit {0}) Refusal) (x y : MutBor (List ℕ)) → Allowed r x → Allowed s y → (r ≡ s) × (x.now ≡ y.now)
  two_results r s x y p q = (same_answer r s (p.0 ∙ sym q.0), p.1 ∙ sym q.1)

  pub some_result : (r : Result (Unit {0}) Refusal) × (x : MutBor (List ℕ)) × Allowed r x
  some_result =
      let o = verdict (read_rules G design.now (length array.now) marks.now n.0 offset (length out.now)) in
      let w =
      some_answer (read_rules G design.now (length array.now) marks.now n.0 offset (length out.now)) tt
      (read_tabled G design.now (length array.now) marks.now n.0 offset (length out.now))
      in (
        w.0,
        at_last out (kept o (read_of G design.now array.now n.0 offset (length out.now)) out.now),
        (w.1, refl),
      )

  pub read_is_exact :
      (r : Result (Unit {0}) Refusal) (x : MutBor (List ℕ)) → Allowed r x →
      Exact (read_rows G design.now (length array.now) marks.now n.0 offset (length out.now)) (outcome_of r)
  read_is_exact r x p =
      rw p.0 (read_exact G design.now (length array.now) marks.now n.0 offset (length out.now) tt)

  -- an accepted read gives the bytes of the range
  pub read_accepted :
      (x : MutBor (List ℕ)) → Allowed (Ok tt) x → x.now ≡ read_of G design.now array.now n.0 offset (length out.now)
  read_accepted x p = p.1 ∙ sym (kept_new _ tt (read_of G design.now array.now n.0 offset (length out.now)) out.now (sym p.0))
