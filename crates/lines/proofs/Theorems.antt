-- The statements of specs/Theorems.antt are proved. Assumes nothing.
use mathlib.Core.Path.{refl}
use Rattle.decimals.specs.Decimal.{is_digit, decimal_from}
use Rattle.lines.specs.Line.{front, field, past, parsed}
use Rattle.lines.specs.Theorems.{ALineIsReadExactlyIfItHasTheForm, ALineOfAnotherFormIsUnread, Lines}
use Rattle.lines.proofs.Forms.{has_form, form_read, no_form_unread}

pub a_line_is_read_exactly_if_it_has_the_form : ALineIsReadExactlyIfItHasTheForm
a_line_is_read_exactly_if_it_has_the_form line v g disk = (has_form line v g disk, form_read line v g disk)

pub a_line_of_another_form_is_unread : ALineOfAnotherFormIsUnread
a_line_of_another_form_is_unread line =
    (no_form_unread line, λ u v g disk F. absurd (cc (u, form_read line v g disk F)))

pub lines : Lines
unfolding is_digit decimal_from front field past parsed
lines =
    record {
      plain = refl;
      leading_zeros = refl;
      empty = refl;
      two_numbers = refl;
      two_spaces = refl;
      space_at_the_end = refl;
      carriage_return = refl;
      sign = refl;
      nine_digits = refl;
      ten_digits = refl;
      text_after_the_line_end = refl;
      two_line_ends = refl;
      tab = refl;
    }
