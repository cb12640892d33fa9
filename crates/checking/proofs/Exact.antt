-- "Refusals come exactly as tabled" (01), over the contract of `check` itself. Assumes nothing.
use Prim.Native.Nat.{ℕ}
use mathlib.Core.List.{List}
use contract.Lifetimes.{Lfts}
use denote.Ref.{Bor}
use Rattle.refusal.specs.Due.{Exact}
use Rattle.checking.specs.Reasons.{design_rows}
use Rattle.checking.proofs.Reasons.{design_exact}
use Rattle.checking.proofs.TwoResults.{Allowed}
use Rattle.std.specs.Prelude.{Result}
use Rattle.refusal.specs.declared.Refusal.{Refusal}
use Rattle.refusal.specs.Refusal.{outcome_of}

-- whatever the contract allows refuses by 2, 3, 4 or 5 at a place exactly where that is due, and accepts exactly where none is
pub check_exact :
    (κs : Lfts 1) (v k : ℕ) (design : Bor (List ℕ)) (r : Result (Unit {0}) Refusal) → Allowed κs v k design r
    → Exact (design_rows v k design.now) (outcome_of r)
check_exact κs v k design r p = rw p (design_exact v k design.now)
