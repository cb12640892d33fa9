-- `sizes::sizes_of` meets its contract. Assumes nothing.
use mathlib.Core.Path.{sym, ap, ◌∙◌}
use Rattle.refusal.specs.Refusal.{accepted}
use Rattle.refusal.proofs.Same.{passed_on}
use Rattle.sizes.proofs.Reasons.{accepted_is_laid}
use Rattle.sizes.proofs.Rules.{refused_sizes, accepted_sizes}
use Rattle.sizes.proofs.sizes_of.Goals as goal

pub derived-requires : goal.derived-requires
derived-requires c = (accepted_is_laid _ _ (sym c.in_ok-check_sizes.ensures)).sound

pub returns-in_err-check_sizes : goal.returns-in_err-check_sizes
returns-in_err-check_sizes c =
    passed_on _ _ c.from_residual.ensures.1 ∙ sym (refused_sizes _ _ _ _ _ (sym c.in_err-check_sizes.ensures))

pub returns : goal.returns
returns c = ap accepted c.derived.ensures ∙ sym (accepted_sizes _ _ _ (sym c.in_ok-check_sizes.ensures))
