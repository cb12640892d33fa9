-- "Refusals come exactly as tabled" (01), over the contracts of the calls themselves: 2 to 6. Assumes nothing.
use Prim.Native.Nat.{ℕ}
use mathlib.Core.List.{List}
use contract.Lifetimes.{Lfts}
use denote.Ref.{Bor}
use Rattle.refusal.specs.Due.{Exact}
use Rattle.geometry.specs.declared.Geometry.{Geometry}
use Rattle.sizes.specs.Sizes.{sizes_of}
use Rattle.sizes.specs.Reasons.{sizes_rows}
use Rattle.sizes.proofs.Reasons.{sizes_exact}
use Rattle.sizes.proofs.TwoResults.{CheckAllowed, AnswerAllowed}
use Rattle.std.specs.Prelude.{Result}
use Rattle.refusal.specs.declared.Refusal.{Refusal}
use Rattle.sizes.specs.declared.Sizes.{Sizes}
use Rattle.refusal.specs.Refusal.{outcome_of}

module _ (κs : Lfts 1) (G : Geometry) (design : Bor (List ℕ)) where
  pub check_is_exact : (r : Result (Unit {0}) Refusal) → CheckAllowed κs G design r → Exact (sizes_rows G design.now) (outcome_of r)
  check_is_exact r p = rw p (sizes_exact G design.now tt)

  pub answer_is_exact : (r : Result Sizes Refusal) → AnswerAllowed κs G design r → Exact (sizes_rows G design.now) (outcome_of r)
  answer_is_exact r p = rw p (sizes_exact G design.now (sizes_of G))
