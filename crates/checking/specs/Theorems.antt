-- What is proved of the design check: the statements alone. Those over the call's own contract are `two_results`,
-- `some_result` (proofs/TwoResults.antt) and `check_exact` (proofs/Exact.antt). Assumes nothing.
use Rattle.std.specs.Prelude.{ℕ, ◌≡◌, true, List}
use Rattle.refusal.specs.Refusal.{verdict, accepted}
use Rattle.refusal.specs.Due.{Exact}
use Rattle.geometry.specs.Geometry.{Limits, whole, b_of}
use Rattle.design.specs.Design.{Design}
use Rattle.checking.specs.Rules.{design_rules}
use Rattle.checking.specs.Reasons.{design_rows}

-- "It refuses by a numbered reason exactly when our rules give that reason" (the request, 1)
abbrev pub RefusalsAreExact : Type 0
RefusalsAreExact = (v k : ℕ) (d : List ℕ) → Exact (design_rows v k d) (verdict (design_rules v k d))

-- what the check accepts is a design
abbrev pub WhatIsAcceptedIsADesign : Type 0
WhatIsAcceptedIsADesign =
    (v k : ℕ) (d : List ℕ) → verdict (design_rules v k d) ≡ accepted tt →
    Limits v k × (whole v k ≡ true) × Design v k (b_of v k) d

-- and every design within the limits is accepted
abbrev pub ADesignIsAccepted : Type 0
ADesignIsAccepted =
    (v k : ℕ) (d : List ℕ) → Limits v k → whole v k ≡ true → Design v k (b_of v k) d →
    verdict (design_rules v k d) ≡ accepted tt
