-- "Refusals come exactly as tabled" (01), over the contract of `fill` itself. Assumes nothing.
use Prim.Native.Nat.{ℕ}
use mathlib.Core.List.{List}
use lib.ListN.{length}
use contract.Lifetimes.{Lfts}
use denote.Ref.{MutBor}
use Rattle.refusal.specs.Due.{Exact}
use Rattle.held.specs.Reasons.{fill_rows}
use Rattle.held.specs.Theorems.{RefusalsAreExact}
use Rattle.held.proofs.Reasons.{fill_exact}
use Rattle.held.proofs.TwoResults.{Allowed}
use Rattle.std.specs.Prelude.{Result}
use Rattle.refusal.specs.declared.Refusal.{Refusal}
use Rattle.refusal.specs.Refusal.{outcome_of}

pub refusals_are_exact : RefusalsAreExact
refusals_are_exact v n = fill_exact v n tt

-- whatever the contract allows refuses by 1 or 3 exactly where that is due, and accepts exactly where neither is
pub fill_is_exact :
    (κs : Lfts 1) (v : ℕ) (design last : MutBor (List ℕ)) (r : Result (Unit {0}) Refusal) → Allowed κs v design r last →
    Exact (fill_rows v (length design.now)) (outcome_of r)
fill_is_exact κs v design last r p = rw p.0 (refusals_are_exact v (length design.now))
