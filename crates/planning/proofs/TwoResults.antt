-- "That two results allowed by it are equal is itself proved", "refusals come exactly as tabled" (01), over the contract of
-- `plan` itself; and some result is allowed. Assumes nothing.
use Prim.Native.Nat.{ℕ}
use mathlib.Core.Path.{◌≡◌, refl, sym, ap, ◌∙◌}
use mathlib.Core.List.{List}
use lib.ListN.{length}
use contract.Lifetimes.{Lfts}
use denote.Ref.{Bor, MutBor, at_last}
use Rattle.refusal.specs.declared.Refusal.{Refusal}
use Rattle.refusal.specs.Refusal.{Outcome, answer, kept, outcome_of}
use Rattle.refusal.specs.Due.{Exact}
use Rattle.refusal.proofs.Answer.{accepted_value}
use Rattle.refusal.proofs.Same.{same_answer, AllTabled, tabled_append, some_answer}
use Rattle.geometry.specs.declared.Geometry.{Geometry}
use Rattle.geometry.specs.declared.Disk.{Disk}
use Rattle.planning.specs.Plan.{triples_of, planned, plan_rules}
use Rattle.planning.specs.Reasons.{plan_rows}
use Rattle.planning.proofs.Reasons.{plan_exact}
use Rattle.planning.proofs.plan.Reads as plan
use Rattle.std.specs.Prelude.{Result, Ok, Err}
use Rattle.refusal.specs.declared.Refusal.TheVariants.{PlaceTooHigh, ListTooShort}
use Rattle.sizes.specs.Sizes.{sizes_rules}
use Rattle.sizes.proofs.TwoResults.{sizes_tabled}

-- each of its rules is a row of the table
plan_tabled : (G : Geometry) (d : List ℕ) (disk room : ℕ) → AllTabled (plan_rules G d disk room)
unfolding plan_rules
plan_tabled G d disk room =
    tabled_append (sizes_rules G d) _ (sizes_tabled G d) ((PlaceTooHigh, refl, refl), ((ListTooShort, refl, refl), tt))

module _ (κs : Lfts 2) (G : Geometry) (design : Bor (List ℕ)) (disk : Disk) (list : MutBor (List ℕ)) where
  -- what the contract allows to be answered, and to be held by the list at return
  abbrev pub Allowed : Result ℕ Refusal → MutBor (List ℕ) → Type 0
  Allowed r last = plan.Post κs (G, (design, (disk, (list, tt)))) r (G, (design, (disk, (last, tt))))

  pub two_results : (r s : Result ℕ Refusal) (x y : MutBor (List ℕ)) → Allowed r x → Allowed s y → (r ≡ s) × (x.now ≡ y.now)
  two_results r s x y p q = (same_answer r s (p.0 ∙ sym q.0), p.1 ∙ sym q.1)

  abbrev answered : Outcome ℕ
  answered = answer (plan_rules G design.now disk.0 (length list.now)) (triples_of G)

  abbrev held : Outcome ℕ → List ℕ
  held o = kept o (planned G design.now disk.0 list.now) list.now

  pub some_result : (r : Result ℕ Refusal) × (x : MutBor (List ℕ)) × Allowed r x
  some_result = let w =
      some_answer (plan_rules G design.now disk.0 (length list.now)) (triples_of G)
      (plan_tabled G design.now disk.0 (length list.now))
      in (w.0, at_last list (held answered), (w.1, refl))

  pub plan_is_exact :
      (r : Result ℕ Refusal) (x : MutBor (List ℕ)) → Allowed r x
      → Exact (plan_rows G design.now disk.0 (length list.now)) (outcome_of r)
  plan_is_exact r x p = rw p.0 (plan_exact G design.now disk.0 (length list.now) (triples_of G))

  -- an accepted plan hands back the number of triples and leaves the plan in the list
  pub plan_accepted :
      (n : ℕ) (x : MutBor (List ℕ)) → Allowed (Ok n) x
      → (n ≡ triples_of G) × (x.now ≡ planned G design.now disk.0 list.now)
  plan_accepted n x p = (
    accepted_value (plan_rules G design.now disk.0 (length list.now)) (triples_of G) n (sym p.0),
    p.1 ∙ ap held (sym p.0),
  )

  -- "and every lent byte stays"
  pub plan_refused : (y : Refusal) (x : MutBor (List ℕ)) → Allowed (Err y) x → x.now ≡ list.now
  plan_refused y x p = p.1 ∙ ap held (sym p.0)
