-- The answer of the printer's plan from those of the two calls it makes. Assumes nothing.
use Prim.Native.Nat.{ℕ}
use mathlib.Core.Path.{◌≡◌, refl, sym, ap, ◌∙◌}
use mathlib.Core.List.{List}
use lib.ListN.{length}
use Rattle.refusal.specs.Refusal.{Outcome, refused, accepted, answer, verdict, kept}
use Rattle.refusal.proofs.Answer.{skip, stop}
use Rattle.geometry.specs.declared.Geometry.{Geometry}
use Rattle.held.specs.Held.{held_design, fill_rules}
use Rattle.planning.specs.Plan.{triples_of, planned, plan_rules}
use Rattle.lines.specs.declared.Question.{Question}
use Rattle.printing.specs.Shown.{shelf, room, show_rules}

module _ (q : Question) (old : List ℕ) where
  abbrev whole : Outcome ℕ
  whole = answer (show_rules q) (triples_of (shelf q))

  -- what the contract says of an answer x, and of the list at return
  abbrev pub Answered : Outcome ℕ → List ℕ → Type 0
  Answered x last = (x ≡ whole) × (last ≡ kept whole (planned (shelf q) (held_design q.v) q.disk old) old)

  answered_by : (x : Outcome ℕ) (last : List ℕ) → x ≡ whole → last ≡ kept x (planned (shelf q) (held_design q.v) q.disk old) old → Answered x last
  answered_by x last e f = (e, f ∙ ap (λ (o : Outcome ℕ). kept o (planned (shelf q) (held_design q.v) q.disk old) old) e)

  -- the list that is to be filled has as many numbers as the design
  module _ (m : ℕ) (long : m ≡ length (held_design q.v)) where
    pub not_filled : (n p : ℕ) → verdict (fill_rules q.v m) ≡ refused n p → Answered (refused n p) old
    unfolding show_rules
    not_filled n p e =
        answered_by (refused n p) old
        (sym (stop (fill_rules q.v (length (held_design q.v))) _ (triples_of (shelf q)) n p (sym (ap (λ (y : ℕ). verdict (fill_rules q.v y)) long) ∙ e)))
        refl

    pub filled_plan :
        (G : Geometry) (d : List ℕ) (x : Outcome ℕ) (last : List ℕ) →
        verdict (fill_rules q.v m) ≡ accepted tt → G ≡ shelf q → d ≡ held_design q.v → length old ≡ room →
        x ≡ answer (plan_rules G d q.disk (length old)) (triples_of G) →
        last ≡ kept (answer (plan_rules G d q.disk (length old)) (triples_of G)) (planned G d q.disk old) old →
        Answered x last
    unfolding show_rules
    filled_plan G d x last e same is has f g =
        let s = skip (fill_rules q.v (length (held_design q.v))) (plan_rules (shelf q) (held_design q.v) q.disk room) (triples_of (shelf q)) (sym (ap (λ (y : ℕ). verdict (fill_rules q.v y)) long) ∙ e) in
        let f' : x ≡ answer (plan_rules (shelf q) (held_design q.v) q.disk room) (triples_of (shelf q)) = rw (same, is, has) at f in
        let g' : last ≡ kept (answer (plan_rules (shelf q) (held_design q.v) q.disk room) (triples_of (shelf q))) (planned (shelf q) (held_design q.v) q.disk old) old = rw (same, is, has) at g in
        answered_by x last (f' ∙ sym s) (g' ∙ ap (λ (o : Outcome ℕ). kept o (planned (shelf q) (held_design q.v) q.disk old) old) (sym f'))
