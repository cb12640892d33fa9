-- `auditing::audit` meets its contract: each return by the law of its case. Assumes nothing.
use mathlib.Core.Path.{◌≡◌, sym, ap, ◌∙◌}
use Rattle.refusal.specs.Refusal.{accepted, verdict}
use Rattle.refusal.proofs.Same.{passed_on}
use Rattle.sizes.specs.Sizes.{sizes_rules}
use Rattle.sizes.proofs.Reasons.{accepted_is_laid}
use Rattle.array.proofs.Fits.{fits_words}
use Rattle.auditing.proofs.Answers.{sizes_refuse, array_refuses, accepts}
use Rattle.auditing.proofs.audit.Goals as goal
use Rattle.auditing.proofs.audit.Goals.{In_ok-check_sizes}

-- none of 2 to 6 is due
fine : (c : In_ok-check_sizes) → let a = c.args in verdict (sizes_rules a.geometry a.design.now) ≡ accepted tt
fine c = sym c.in_ok-check_sizes.ensures

pub returns-in_err-check_sizes : goal.returns-in_err-check_sizes
returns-in_err-check_sizes c =
    passed_on _ _ c.from_residual.ensures.1 ∙ sym (sizes_refuse _ _ _ _ _ _ (sym c.in_err-check_sizes.ensures))

pub array_fits-requires : goal.array_fits-requires
array_fits-requires c = (accepted_is_laid _ _ (fine c)).sound

pub returns-then-not-array_fits : goal.returns-then-not-array_fits
returns-then-not-array_fits c = sym (array_refuses _ _ _ _ (fine (goal.at.returns-then-not-array_fits c).In_ok-check_sizes) (sym c.array_fits.ensures ∙ c.if-not-array_fits.true))

pub invariant_of-layout : goal.invariant_of-layout
invariant_of-layout c = record { laid = accepted_is_laid _ _ (fine (goal.at.invariant_of-layout c).In_ok-check_sizes) }

pub audit_all-requires : goal.audit_all-requires
audit_all-requires c = (fits_words _ _ (sym c.array_fits.ensures ∙ c.if-not-array_fits.false)).0

pub returns : goal.returns
returns c = ap accepted c.audit_all.ensures ∙ sym (accepts _ _ _ _ (fine (goal.at.returns c).In_ok-check_sizes) (sym c.array_fits.ensures ∙ c.if-not-array_fits.false))
