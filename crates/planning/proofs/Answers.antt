-- The answers of the plan, case by case. Assumes nothing.
use Prim.Native.Nat.{ℕ, ◌+◌, ◌*◌, ◌≤◌, ◌<◌}
use mathlib.Core.Path.{◌≡◌, sym, ap, ◌∙◌}
use mathlib.Core.List.{List, [], ◌∷◌, ◌++◌}
use native.Mathlib.Nat.{zero-add}
use native.Mathlib.Omega.{arith}
use lib.Dec.{leb, ltb}
use lib.ListN.{length, drop}
use lib.Seq.{sets, sets-eq}
use borrow.Author.Tests.{le-leb, lt-leb, lt-ltb, le-ltb}
use Rattle.refusal.specs.Refusal.{Rule, rule, Outcome, refused, accepted, answer, verdict, kept}
use Rattle.refusal.proofs.Answer.{first, next, skip, stop}
use Rattle.geometry.specs.declared.Geometry.{Geometry}
use Rattle.geometry.specs.Geometry.{disks_of}
use Rattle.sizes.specs.Sizes.{sizes_rules}
use Rattle.sizes.proofs.Reasons.{accepted_is_laid}
use Rattle.sources.specs.Plan.{plan_of}
use Rattle.planning.specs.Plan.{triples_of, planned, plan_rules}
use Rattle.planning.proofs.Bounds.{plan_length}

module _ (G : Geometry) (d : List ℕ) (disk : ℕ) (old : List ℕ) where
  abbrev answered : Outcome ℕ
  answered = answer (plan_rules G d disk (length old)) (triples_of G)

  -- what the contract says of an answer x, and of the list at return
  abbrev pub Answered : Outcome ℕ → List ℕ → Type 0
  Answered x last = (x ≡ answered) × (last ≡ kept answered (planned G d disk old) old)

  refuses : (n p : ℕ) → answered ≡ refused n p → Answered (refused n p) old
  refuses n p e = (sym e, ap (λ (o : Outcome ℕ). kept o (planned G d disk old) old) (sym e))

  abbrev ninth : Rule
  ninth = rule 9 (leb (disks_of G) disk) 0

  abbrev fourteenth : Rule
  fourteenth = rule 14 (ltb (length old) (3 * triples_of G)) 0

  pub sizes_refuse : (n p : ℕ) → verdict (sizes_rules G d) ≡ refused n p → Answered (refused n p) old
  unfolding plan_rules
  sizes_refuse n p e = refuses n p (stop (sizes_rules G d) (ninth ∷ fourteenth ∷ []) (triples_of G) n p e)

  module _ (fine : verdict (sizes_rules G d) ≡ accepted tt) where
    behind : answered ≡ answer (ninth ∷ fourteenth ∷ []) (triples_of G)
    unfolding plan_rules
    behind = skip (sizes_rules G d) (ninth ∷ fourteenth ∷ []) (triples_of G) fine

    pub disk_high : disks_of G ≤ disk → Answered (refused 9 0) old
    disk_high h = refuses 9 0 (behind ∙ first ninth (fourteenth ∷ []) (triples_of G) (le-leb (disks_of G) disk h))

    module _ (low : disk < disks_of G) where
      last_rule : answered ≡ answer (fourteenth ∷ []) (triples_of G)
      last_rule = behind ∙ next ninth (fourteenth ∷ []) (triples_of G) (lt-leb (disks_of G) disk low)

      pub list_short : length old < 3 * triples_of G → Answered (refused 14 0) old
      list_short h = refuses 14 0 (last_rule ∙ first fourteenth [] (triples_of G) (lt-ltb (length old) (3 * triples_of G) h))

      pub plan_long : length (plan_of G d disk) ≡ 3 * triples_of G
      plan_long = plan_length G d (accepted_is_laid G d fine) disk low

      pub goes :
          3 * triples_of G ≤ length old → (n : ℕ) → n ≡ triples_of G → (last : List ℕ) → last ≡ sets old 0 (plan_of G d disk)
          → Answered (accepted n) last
      unfolding planned
      goes h n en last e =
          let w : answered ≡ accepted (triples_of G) = last_rule ∙ next fourteenth [] (triples_of G) (le-ltb (length old) (3 * triples_of G) h) in
          let room : 0 + length (plan_of G d disk) ≤ length old = omega (arith, h, plan_long) in (
            ap accepted en ∙ sym w,
            e ∙ sets-eq (plan_of G d disk) old 0 room
                ∙ ap (λ (x : ℕ). plan_of G d disk ++ drop x old) (zero-add (length (plan_of G d disk)) ∙ plan_long)
                ∙ ap (λ (o : Outcome ℕ). kept o (planned G d disk old) old) (sym w),
          )
