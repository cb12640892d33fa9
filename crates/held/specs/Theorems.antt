-- What is proved of the held designs: the statements alone. Those over the call's own contract are `two_results`,
-- `some_result` (proofs/TwoResults.antt) and `fill_is_exact` (proofs/Exact.antt). Assumes nothing.
use Rattle.std.specs.Prelude.{ℕ, ◌≡◌, length}
use Rattle.refusal.specs.Refusal.{verdict, accepted}
use Rattle.refusal.specs.Due.{Exact}
use Rattle.checking.specs.Rules.{design_rules}
use Rattle.held.specs.Held.{set_for, held_design, fill_rules}
use Rattle.held.specs.Reasons.{fill_rows}

-- each of the seven held designs is accepted by the design check
abbrev pub HeldDesignsAreAccepted : Type 0
HeldDesignsAreAccepted =
    (v : ℕ) → (length (set_for v) ≡ 0 → ⊥) → verdict (design_rules v (length (set_for v)) (held_design v)) ≡ accepted tt

-- refusals 1 and 3 come exactly where they are due
abbrev pub RefusalsAreExact : Type 0
RefusalsAreExact = (v n : ℕ) → Exact (fill_rows v n) (verdict (fill_rules v n))
