-- The statements of specs/Theorems.antt are proved. Assumes nothing.
use Prim.Native.Nat.{ℕ, ◌*◌, ◌≤◌, ◌<◌}
use mathlib.Core.Path.{◌≡◌, refl, sym, ap, ◌∙◌}
use mathlib.Core.Logic.{◌⊎◌, inl, inr}
use mathlib.Core.List.{List, [], ◌∷◌, ◌++◌}
use native.Mathlib.Omega.{arith}
use native.Mathlib.Decide.{dec_lt}
use lib.ListN.{length, take, length-append}
use lib.Seq.{take_all, length-take-le}
use Rattle.refusal.specs.Refusal.{Outcome, refused, accepted}
use Rattle.refusal.specs.Due.{Due, NoneDue}
use Rattle.refusal.proofs.Answer.{accepted_value}
use Rattle.held.specs.Held.{table, held_design}
use Rattle.held.specs.Reasons.{HeldSet}
use Rattle.held.proofs.Table.{held_found}
use Rattle.sizes.specs.Reasons.{Allowed}
use Rattle.sources.specs.Plan.{plan_of}
use Rattle.decimals.specs.Decimal.{space, line_end, lines_of}
use Rattle.lines.specs.declared.Question.{Question}
use Rattle.std.specs.Prelude.{Option, Some, None}
use Rattle.lines.specs.Line.{question, parsed}
use Rattle.lines.specs.Theorems.{Form}
use Rattle.lines.proofs.Forms.{has_form, form_read, no_form_unread}
use Rattle.printing.specs.Shown.{shelf, show_rules, answered, answer_text, refused_text, unread_text, shown}
use Rattle.printing.specs.Theorems.{NotAllowed, show_rows, ARefusalIsPrintedExactlyIfDue, Only1_6And9ArePrinted, ElseThePlanIsPrinted, UnreadIsPrintedExactlyForAnotherForm, TheFirst31BytesAreEnough}
use Rattle.printing.proofs.Refusals.{show_exact}
use Rattle.printing.proofs.Differ.{refused_number, refused_unread, lines_refused, lines_unread}

unread_shown : (line : List ℕ) → parsed line ≡ None → shown line ≡ unread_text
unfolding shown
unread_shown line e = rw e

module _ (line : List ℕ) (v g disk : ℕ) (F : Form line v g disk) where
  abbrev q : Question
  q = question v g disk

  abbrev plan : List ℕ
  plan = plan_of (shelf q) (held_design v) disk

  asked : shown line ≡ answer_text (answered q)
  unfolding shown
  asked = rw (form_read line v g disk F)

  told : (o : Outcome (List ℕ)) → answered q ≡ o → shown line ≡ answer_text o
  told o e = asked ∙ ap answer_text e

  due_place : (n p : ℕ) → Due (show_rows v g disk) n p → p ≡ 0
  due_place n p (inl d) = d.1.0
  due_place n p (inr (s, inl d)) = d.1.0
  due_place n p (inr (s, inr (t, inl d))) = d.1.0
  due_place n p (inr (s, inr (t, inr (u, d)))) = absurd d

  due_number : (n p : ℕ) → Due (show_rows v g disk) n p → (n ≡ 1) ⊎ ((n ≡ 6) ⊎ (n ≡ 9))
  due_number n p (inl d) = inl d.0
  due_number n p (inr (s, inl d)) = inr (inl d.0)
  due_number n p (inr (s, inr (t, inl d))) = inr (inr d.0)
  due_number n p (inr (s, inr (t, inr (u, d)))) = absurd d

  printed_due : (n : ℕ) → shown line ≡ refused_text n → Due (show_rows v g disk) n 0
  printed_due n e = go (answered q) refl
    where
      go : (o : Outcome (List ℕ)) → answered q ≡ o → Due (show_rows v g disk) n 0
      go (refused m p) h =
          let same : m ≡ n = refused_number m n (sym (told (refused m p) h) ∙ e) in
          let due : Due (show_rows v g disk) m p = ((show_exact v g disk plan).refusal m p).0 h in
          rw (same, due_place m p due) at due
      go (accepted xs) h = absurd (lines_refused xs n (sym (told (accepted xs) h) ∙ e))

  due_printed : (n : ℕ) → Due (show_rows v g disk) n 0 → shown line ≡ refused_text n
  due_printed n due = told (refused n 0) (((show_exact v g disk plan).refusal n 0).1 due)

  never_unread : shown line ≡ unread_text → ⊥
  never_unread e = go (answered q) refl
    where
      go : (o : Outcome (List ℕ)) → answered q ≡ o → ⊥
      go (refused m p) h = refused_unread m (sym (told (refused m p) h) ∙ e)
      go (accepted xs) h = lines_unread xs (sym (told (accepted xs) h) ∙ e)

  module _ (s : List ℕ) (held : HeldSet table v s) (allowed : Allowed (length s) g 1) (low : disk < v * g) where
    none_due : NoneDue (show_rows v g disk)
    none_due = (
      λ p h. h.1 s held,
      (
        λ p h. other h.1,
        (λ p h. let w : v * g ≤ disk = h.1 in omega arith, tt),
      ),
    )
      where
        other : NotAllowed v g → ⊥
        other (t, found, n) =
            n (rw (sym (held_found v s held) ∙ held_found v t found) at allowed)

    plan_shown : shown line ≡ lines_of (plan_of (record { v = v; k = length s; g = g; u = 1 }) (held_design v) disk)
    plan_shown =
        let w = (show_exact v g disk plan).acceptance.1 none_due in
        told (accepted w.0) w.1
        ∙ ap lines_of (accepted_value (show_rules q) plan w.0 w.1)
        ∙ ap (λ (n : ℕ). lines_of (plan_of (record { v = v; k = n; g = g; u = 1 }) (held_design v) disk)) (ap length (held_found v s held))

pub a_refusal_is_printed_exactly_if_due : ARefusalIsPrintedExactlyIfDue
a_refusal_is_printed_exactly_if_due line v g disk n F = (printed_due line v g disk F n, due_printed line v g disk F n)

pub only_1_6_and_9_are_printed : Only1_6And9ArePrinted
only_1_6_and_9_are_printed line n e = go (parsed line) refl
  where
    go : (x : Option Question) → parsed line ≡ x → (n ≡ 1) ⊎ ((n ≡ 6) ⊎ (n ≡ 9))
    go (Some a) h =
        let F = has_form line a.v a.g a.disk h in
        due_number line a.v a.g a.disk F n 0 (printed_due line a.v a.g a.disk F n e)
    go None h = absurd (refused_unread n (sym e ∙ unread_shown line h))

pub else_the_plan_is_printed : ElseThePlanIsPrinted
else_the_plan_is_printed line v g disk F s held allowed low = plan_shown line v g disk F s held allowed low

pub unread_is_printed_exactly_for_another_form : UnreadIsPrintedExactlyForAnotherForm
unread_is_printed_exactly_for_another_form line =
    (λ e v g disk F. never_unread line v g disk F e, λ none. unread_shown line (no_form_unread line none))

-- a line of the form has 9+1+9+1+9+1 bytes at most
form_short : (line : List ℕ) (v g disk : ℕ) → Form line v g disk → length line ≤ 30
form_short line v g disk F =
    let end : length F.e ≤ 1 = short F.e F.end in
    rw (
      F.written,
      length-append (F.a ++ space ∷ F.b ++ space ∷ F.c) F.e,
      length-append (F.a ++ space ∷ F.b) (space ∷ F.c),
      length-append F.a (space ∷ F.b),
    )
    (omega (arith, end, F.reads_v.nine, F.reads_g.nine, F.reads_disk.nine))
  where
    short : (e : List ℕ) → (e ≡ []) ⊎ (e ≡ line_end ∷ []) → length e ≤ 1
    short e (inl h) = rw h (omega arith)
    short e (inr h) = rw h (omega arith)

long_unread : (line : List ℕ) → 30 < length line → shown line ≡ unread_text
long_unread line h =
    unread_shown line (no_form_unread line (λ v g disk F. let s = form_short line v g disk F in omega arith))

pub the_first_31_bytes_are_enough : TheFirst31BytesAreEnough
the_first_31_bytes_are_enough input = go (dec_lt 31 (length input))
  where
    go : Dec (31 < length input) → shown (take 31 input) ≡ shown input
    go (yes h) =
        let l : length (take 31 input) ≡ 31 = length-take-le 31 input (omega arith) in
        long_unread (take 31 input) (omega arith) ∙ sym (long_unread input (omega arith))
    go (no h) = ap shown (take_all 31 input (omega arith))
