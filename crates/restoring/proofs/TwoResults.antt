-- "That two results allowed by it are equal is itself proved" (01), over the contract of `restore_run` itself; and some result is
-- allowed. Assumes nothing.
use Prim.Native.Nat.{ℕ}
use mathlib.Core.Path.{◌≡◌, refl, sym, ◌∙◌}
use mathlib.Core.List.{List}
use contract.Lifetimes.{Lfts}
use denote.Ref.{Bor, MutBor, at_last}
use Rattle.restoring.specs.Restore.{restored_in}
use Rattle.restoring.proofs.restore_run.Reads as restore_run

module _ (κs : Lfts 2) (array : MutBor (List ℕ)) (starts : Bor (List ℕ)) (own u : ℕ) where
  -- what the contract allows the array to hold at return
  abbrev pub Allowed : MutBor (List ℕ) → Type 0
  Allowed last = restore_run.Post κs (array, (starts, (own, (u, tt)))) tt (last, (starts, (own, (u, tt))))

  pub two_results : (x y : MutBor (List ℕ)) → Allowed x → Allowed y → x.now ≡ y.now
  two_results x y p q = p ∙ sym q

  pub some_result : (x : MutBor (List ℕ)) × Allowed x
  some_result = (at_last array (restored_in array.now starts.now own u), refl)
