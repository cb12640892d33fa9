-- `address::map` meets its contract. Assumes nothing.
use mathlib.Core.Path.{◌≡◌, sym, ap, ◌∙◌}
use native.Mathlib.Omega.{arith}
use Rattle.refusal.specs.Refusal.{accepted, verdict}
use Rattle.refusal.proofs.Same.{passed_on}
use Rattle.design.specs.Design.{Laid}
use Rattle.sizes.specs.Sizes.{sizes_rules}
use Rattle.sizes.proofs.Reasons.{accepted_is_laid}
use Rattle.address.proofs.Answers.{map_refused, map_high, map_goes}
use Rattle.address.proofs.map.Goals as goal
use Rattle.address.proofs.map.Goals.{In_ok-check_sizes}

-- what the check accepted is laid out
fine : (c : In_ok-check_sizes) → verdict (sizes_rules c.args.geometry c.args.design.now) ≡ accepted tt
fine c = sym c.in_ok-check_sizes.ensures

laid : (c : In_ok-check_sizes) → Laid c.args.geometry c.args.design.now
laid c = accepted_is_laid _ _ (fine c)

pub returns-in_err-check_sizes : goal.returns-in_err-check_sizes
returns-in_err-check_sizes c =
    passed_on _ _ c.from_residual.ensures.1
    ∙ sym
    (map_refused _ _ _ _ _ _ (sym c.in_err-check_sizes.ensures))

pub user_units-requires : goal.user_units-requires
user_units-requires c = (laid c).sound

pub returns-then-user_units-n : goal.returns-then-user_units-n
returns-then-user_units-n c = sym (map_high _ _ _ _ (fine (goal.at.returns-then-user_units-n c).In_ok-check_sizes) (omega (arith, c.user_units.ensures)))

pub invariant_of-layout : goal.invariant_of-layout
invariant_of-layout c = record { laid = laid (goal.at.invariant_of-layout c).In_ok-check_sizes }

pub returns : goal.returns
returns c = ap accepted c.four_of.ensures
    ∙ sym (map_goes _ _ _ _ (fine (goal.at.returns c).In_ok-check_sizes) (omega (arith, c.user_units.ensures)))
