-- "That two results allowed by it are equal is itself proved" (01), over the contract of `replay` itself; and some result is
-- allowed. Assumes nothing.
use Prim.Native.Nat.{ℕ}
use mathlib.Core.Path.{◌≡◌, refl, sym, ◌∙◌}
use mathlib.Core.List.{List}
use lib.ListN.{length}
use contract.Lifetimes.{Lfts}
use denote.Ref.{Bor, MutBor, at_last}
use Rattle.geometry.specs.declared.Tuple.{Tuple}
use Rattle.layout.specs.declared.Layout.{Layout}
use Rattle.reaching.specs.State.{log_steps}
use Rattle.replaying.specs.Replay.{replayed}
use Rattle.replaying.proofs.replay.Reads as replay

module _ (κs : Lfts 4) (layout : Bor Layout) (tuple : Tuple) (log : Bor (List ℕ)) (array : MutBor (List ℕ)) where
  -- what the contract allows the array to hold at return
  abbrev pub Allowed : MutBor (List ℕ) → Type 0
  Allowed last =
      replay.Post κs (layout, (tuple, (log, (array, tt)))) tt
      (layout, (tuple, (log, (last, tt))))

  pub two_results : (x y : MutBor (List ℕ)) → Allowed x → Allowed y → x.now ≡ y.now
  two_results x y p q = p ∙ sym q

  pub some_result : (x : MutBor (List ℕ)) × Allowed x
  some_result =
      let G = layout.now.geometry in
      (at_last array (replayed G layout.now.design.now tuple.0 (log_steps G tuple.0 log.now (length log.now)) array.now), refl)
