-- What is known where no refusal is due, and the texts of the two kinds of answers. Assumes nothing.
use Prim.Native.Nat.{ℕ, ◌*◌, ◌≤◌, ◌<◌}
use mathlib.Core.Path.{◌≡◌, sym, ap, ◌∙◌}
use mathlib.Core.List.{List}
use native.Mathlib.Omega.{arith}
use lib.ListN.{length, take, drop}
use lib.Seq.{take_at}
use borrow.Author.Tests.{leb-false, ltb-false}
use Rattle.refusal.specs.Refusal.{Outcome, refused, accepted, answer, kept}
use Rattle.refusal.proofs.Answer.{Quiet, quiet_append, quiet_accepted, accepted_quiet, accepted_value, refused_at, accepted_at}
use Rattle.geometry.specs.Geometry.{disks_of}
use Rattle.design.specs.Design.{Laid}
use Rattle.sizes.specs.Sizes.{sizes_rules}
use Rattle.sizes.proofs.Reasons.{accepted_is_laid}
use Rattle.held.specs.Held.{held_design, fill_rules}
use Rattle.sources.specs.Plan.{plan_of}
use Rattle.planning.specs.Plan.{triples_of, planned, plan_rules}
use Rattle.planning.proofs.Bounds.{plan_length}
use Rattle.std.specs.Prelude.{Some, None}
use Rattle.decimals.specs.Decimal.{lines_of}
use Rattle.decimals.proofs.Stores.{Put}
use Rattle.lines.specs.declared.Question.{Question}
use Rattle.lines.specs.Line.{parsed}
use Rattle.printing.specs.Shown.{shelf, room, show_rules, answered, answer_text, unread_text, shown}
use Rattle.printing.proofs.Small.{plan_room}

module _ (q : Question) where
  abbrev design : List ℕ
  design = held_design q.v

  abbrev plan : List ℕ
  plan = plan_of (shelf q) design q.disk

  abbrev counted : Outcome ℕ
  counted = answer (show_rules q) (triples_of (shelf q))

  -- a refusal
  pub refused_text :
      (n p : ℕ) → counted ≡ refused n p → (old : List ℕ) (r : ℕ) (last : List ℕ) → Put old (answer_text (refused n p)) r last →
      Put old (answer_text (answered q)) r last
  refused_text n p e old r last f = rw (refused_at (show_rules q) (triples_of (shelf q)) plan n p e) f

  module _ (n : ℕ) (e : counted ≡ accepted n) where
    quiet : Quiet (plan_rules (shelf q) design q.disk room)
    unfolding show_rules
    quiet =
        (quiet_append (fill_rules q.v (length design)) (plan_rules (shelf q) design q.disk room)
        (accepted_quiet (show_rules q) (triples_of (shelf q)) n e)).1

    parts : Laid (shelf q) design × (q.disk < disks_of (shelf q)) × (3 * triples_of (shelf q) ≤ room)
    unfolding plan_rules
    parts =
        let w = quiet_append (sizes_rules (shelf q) design) _ quiet in (
          accepted_is_laid (shelf q) design (quiet_accepted (sizes_rules (shelf q) design) tt w.0),
          leb-false (disks_of (shelf q)) q.disk w.1.0,
          ltb-false room (3 * triples_of (shelf q)) w.1.1.0,
        )

    count_is : n ≡ triples_of (shelf q)
    count_is = accepted_value (show_rules q) (triples_of (shelf q)) n e

    plan_long : length plan ≡ 3 * n
    plan_long =
        plan_length (shelf q) design parts.0 q.disk parts.1 ∙ ap (λ (x : ℕ). 3 * x) (sym count_is)

    pub numbers_fit : 3 * n ≤ 3600
    numbers_fit = omega (arith, parts.2, count_is)

    module _ (old last : List ℕ) (h : last ≡ kept counted (planned (shelf q) design q.disk old) old) where
      -- the numbers that are rendered are the plan
      pub plan_taken : take (3 * n) last ≡ plan
      unfolding planned
      plan_taken =
          ap (take (3 * n)) (h ∙ ap (λ (o : Outcome ℕ). kept o (planned (shelf q) design q.disk old) old) e)
          ∙ take_at plan (drop (3 * triples_of (shelf q)) old) (3 * n) plan_long

      -- and there is room for their lines
      pub lines_fit : length (lines_of (take (3 * n) last)) ≤ 18000
      lines_fit =
          rw plan_taken
          (omega (arith, plan_room (shelf q) design parts.0 q.disk parts.1, plan_long, numbers_fit))

      pub plan_text :
          (text : List ℕ) (r : ℕ) (after : List ℕ) → Put text (lines_of (take (3 * n) last)) r after →
          Put text (answer_text (answered q)) r after
      plan_text text r after f =
          rw (accepted_at (show_rules q) (triples_of (shelf q)) n plan e) (rw plan_taken at f)

-- what is printed, by what the line asks
module _ (line old : List ℕ) (r : ℕ) (last : List ℕ) where
  pub unread_text_lem : parsed line ≡ None → Put old unread_text r last → Put old (shown line) r last
  unfolding shown
  unread_text_lem e f = rw e f

  pub asked_text : (q : Question) → parsed line ≡ Some q → Put old (answer_text (answered q)) r last → Put old (shown line) r last
  unfolding shown
  asked_text q e f = rw e f
