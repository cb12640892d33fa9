-- "That two results allowed by it are equal is itself proved", "refusals come exactly as tabled" (01), over the contract of
-- `rebuild` itself; and some result is allowed. Assumes nothing.
use Prim.Native.Nat.{ℕ}
use mathlib.Core.Path.{◌≡◌, refl, sym, ap, ◌∙◌}
use mathlib.Core.List.{List}
use lib.ListN.{length}
use contract.Lifetimes.{Lfts}
use denote.Ref.{Bor, MutBor, at_last}
use Rattle.refusal.specs.declared.Refusal.{Refusal}
use Rattle.refusal.specs.Refusal.{Outcome, answer, kept, outcome_of}
use Rattle.refusal.specs.Due.{Exact}
use Rattle.refusal.proofs.Answer.{accepted_value}
use Rattle.refusal.proofs.Same.{same_answer, AllTabled, tabled_append, some_answer}
use Rattle.geometry.specs.declared.Geometry.{Geometry}
use Rattle.array.specs.Array.{formatted_marks}
use Rattle.rebuilding.specs.Rebuild.{rebuilt_of, restored_of, rebuild_rules}
use Rattle.rebuilding.specs.Reasons.{rebuild_rows}
use Rattle.rebuilding.proofs.Reasons.{rebuild_exact}
use Rattle.rebuilding.proofs.rebuild.Reads as rebuild
use Rattle.std.specs.Prelude.{Result, Ok, Err}
use Rattle.refusal.specs.declared.Refusal.TheVariants.{Incomplete}
use Rattle.counting.specs.Counting.{lowest}
use Rattle.geometry.specs.Geometry.{tuples_of}
use Rattle.array.specs.Rules.{array_rules}
use Rattle.array.proofs.TwoResults.{array_tabled}
use Rattle.reaching.specs.Reach.{incomplete}

-- each of its rules is a row of the table
rebuild_tabled : (G : Geometry) (d : List ℕ) (bytes : ℕ) (marks : List ℕ) → AllTabled (rebuild_rules G d bytes marks)
unfolding rebuild_rules
rebuild_tabled G d bytes marks =
    let stuck = Incomplete (record { 0 = lowest (incomplete G d marks) (tuples_of G) }) in
    tabled_append (array_rules G d bytes marks) _ (array_tabled G d bytes marks) ((stuck, refl, refl), tt)

module _ (κs : Lfts 3) (G : Geometry) (design : Bor (List ℕ)) (array marks : MutBor (List ℕ)) where
  -- what the contract allows to be answered, and to be held by the array and the marks at return
  abbrev pub Allowed : Result ℕ Refusal → (bytes left : MutBor (List ℕ)) → Type 0
  Allowed r bytes left = rebuild.Post κs (G, (design, (array, (marks, tt)))) r (G, (design, (bytes, (left, tt))))

  pub two_results :
      (r s : Result ℕ Refusal) (x y m n : MutBor (List ℕ)) → Allowed r x m → Allowed s y n
      → (r ≡ s) × (x.now ≡ y.now) × (m.now ≡ n.now)
  two_results r s x y m n p q = (same_answer r s (p.0 ∙ sym q.0), p.1 ∙ sym q.1, p.2 ∙ sym q.2)

  abbrev answered : Outcome ℕ
  answered = answer (rebuild_rules G design.now (length array.now) marks.now) (restored_of G design.now marks.now)

  abbrev held_bytes : Outcome ℕ → List ℕ
  held_bytes o = kept o (rebuilt_of G design.now marks.now array.now) array.now

  abbrev held_marks : Outcome ℕ → List ℕ
  held_marks o = kept o (formatted_marks G) marks.now

  pub some_result : (r : Result ℕ Refusal) × (x : MutBor (List ℕ)) × (m : MutBor (List ℕ)) × Allowed r x m
  some_result =
      let w =
      some_answer (rebuild_rules G design.now (length array.now) marks.now) (restored_of G design.now marks.now)
      (rebuild_tabled G design.now (length array.now) marks.now)
      in
      (w.0, at_last array (held_bytes answered), at_last marks (held_marks answered), (w.1, refl, refl))

  pub rebuild_is_exact :
      (r : Result ℕ Refusal) (x m : MutBor (List ℕ)) → Allowed r x m
      → Exact (rebuild_rows G design.now (length array.now) marks.now) (outcome_of r)
  rebuild_is_exact r x m p =
      rw p.0 (rebuild_exact G design.now (length array.now) marks.now (restored_of G design.now marks.now))

  -- an accepted rebuild: "the lost disks hold the result, marks become 0, and the count of restored units is returned"
  pub rebuild_accepted :
      (n : ℕ) (x m : MutBor (List ℕ)) → Allowed (Ok n) x m
      → (n ≡ restored_of G design.now marks.now) × (x.now ≡ rebuilt_of G design.now marks.now array.now)
      × (m.now ≡ formatted_marks G)
  rebuild_accepted n x m p = (
    accepted_value (rebuild_rules G design.now (length array.now) marks.now) (restored_of G design.now marks.now) n
        (sym p.0),
    p.1 ∙ ap held_bytes (sym p.0),
    p.2 ∙ ap held_marks (sym p.0),
  )

  -- "and every lent byte stays"
  pub rebuild_refused :
      (y : Refusal) (x m : MutBor (List ℕ)) → Allowed (Err y) x m → (x.now ≡ array.now) × (m.now ≡ marks.now)
  rebuild_refused y x m p = (p.1 ∙ ap held_bytes (sym p.0), p.2 ∙ ap held_marks (sym p.0))
