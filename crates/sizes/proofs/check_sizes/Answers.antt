-- `sizes::check_sizes` meets its contract. Assumes nothing.
use mathlib.Core.Path.{sym, ◌∙◌}
use Rattle.refusal.proofs.Same.{passed_on}
use Rattle.sizes.proofs.Rules.{earlier, six, fine}
use Rattle.sizes.proofs.check_sizes.Goals as goal

pub returns-in_err-check : goal.returns-in_err-check
returns-in_err-check c =
    passed_on _ _ c.from_residual.ensures.1 ∙ sym (earlier _ _ tt _ _ (sym c.in_err-check.ensures))

pub returns-then-not-sizes_allowed : goal.returns-then-not-sizes_allowed
returns-then-not-sizes_allowed c =
    sym (six _ _ tt (sym c.in_ok-check.ensures) (sym c.sizes_allowed.ensures ∙ c.if-not-sizes_allowed.true))

pub returns : goal.returns
returns c = sym (fine _ _ tt (sym c.in_ok-check.ensures) (sym c.sizes_allowed.ensures ∙ c.if-not-sizes_allowed.false))
