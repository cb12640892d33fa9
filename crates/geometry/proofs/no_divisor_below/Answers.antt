-- `geometry::no_divisor_below` meets its contract. Assumes nothing.
use Prim.Native.Nat.{ℕ, ◌+◌, ◌-◌, ◌%◌, ◌≤◌, ◌<◌}
use mathlib.Core.Logic.{◌≢◌}
use mathlib.Core.Path.{◌≡◌, refl, sym}
use mathlib.Core.Bool.{Bool, true, false}
use mathlib.Core.List.{List}
use native.Mathlib.Omega.{arith}
use lib.ListN.{get_or, length}
use borrow.Author.Rules.{rules}
use borrow.Author.Tests.{tests}
use Rattle.std.specs.Bool.{MatchBool}
use Rattle.std.specs.List.{range_with_len, AllWithin, HoldsAt}
use Rattle.std.proofs.lemmas.Iterator.{cases_from_all, YieldsList-from_range}
use Rattle.std.proofs.lemmas.List.FromFn.{length-range_with_len, get_or-range_with_len}
use Rattle.geometry.specs.Geometry.{no_divisor_below}
use Rattle.geometry.proofs.Laws.{no_divisors, has_divisor}
use Rattle.geometry.proofs.no_divisor_below.Goals as goal

-- the numbers from 2 to below n, and what `all` says of them
module _ (n g : ℕ) where
  abbrev tried : List ℕ
  tried = range_with_len 2 (n - 2)

  tried_length : length tried ≡ n - 2
  tried_length = length-range_with_len 2 (n - 2)

  tried_at : (k : ℕ) → k < n - 2 → get_or tried k 0 ≡ 2 + k
  tried_at k h = get_or-range_with_len 2 (n - 2) k 0 h

  answered :
      (r : Bool)
      → MatchBool r (AllWithin (λ e. g % e ≢ 0) tried 0 (length tried)) ((k : ℕ) × (k < length tried) × HoldsAt (λ e. g % e ≡ 0) tried k)
      → r ≡ no_divisor_below n g
  answered true h = sym (no_divisors n g (λ (e : ℕ) (p : e < n) (q : 2 ≤ e) (s : g % e ≡ 0).
      let at : get_or tried (e - 2) 0 ≡ e = omega (arith, tried_at (e - 2) (omega arith)) in
      rw at at (h (e - 2) 0 (omega arith) (omega (arith, tried_length))) s))
  answered false h =
      let low : h.0 < n - 2 = omega (arith, tried_length) in
      sym (has_divisor n g (2 + h.0) (omega arith) (omega arith) (rw (tried_at h.0 low) at (h.2 0)))

pub returns : goal.returns
returns c =
    answered _ _ c.all.result
    (cases_from_all _ _ _ (λ d. c.args.g % d ≢ 0) (λ d. c.args.g % d ≡ 0) c.all.ensures.ran
    (YieldsList-from_range 2 c.args.n (c.args.n - 2) refl refl) (λ x q k. search (rules, tests)) (λ x q k. search (rules, tests)))
