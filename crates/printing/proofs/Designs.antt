-- How long the design of a held v is, and how large its set: what the printer's lists have room for. Assumes nothing.
use Prim.Native.Nat.{ℕ, ◌*◌, ◌≤◌}
use mathlib.Core.Path.{◌≡◌, sym, ap, ◌∙◌}
use mathlib.Core.List.{List}
use native.Mathlib.Nat.{mul-zero, mul-le-mul}
use native.Mathlib.Decide.{ℕ_discrete}
use native.Mathlib.Omega.{arith}
use lib.ListN.{length, take}
use lib.Seq.{length-take-le}
use Rattle.counting.proofs.Lists.{list_of_length}
use Rattle.geometry.specs.Geometry.{b_of}
use Rattle.refusal.specs.Refusal.{accepted, verdict, kept}
use Rattle.held.specs.Held.{set_for, held_design, fill_rules}
use Rattle.held.proofs.Table.{held_difference}

module _ (v : ℕ) where
  -- b·k is v·k, and both are 0 where no set is held
  pub design_length : length (held_design v) ≡ v * length (set_for v)
  unfolding held_design
  design_length = list_of_length _ (b_of v (length (set_for v)) * length (set_for v)) ∙ go (ℕ_discrete (length (set_for v)) 0)
    where
      go : Dec (length (set_for v) ≡ 0) → b_of v (length (set_for v)) * length (set_for v) ≡ v * length (set_for v)
      go (yes e) = rw e (mul-zero (b_of v 0) ∙ sym (mul-zero v))
      go (no n) = ap (λ (b : ℕ). b * length (set_for v)) (held_difference v n).rows

  pub design_room : v * length (set_for v) ≤ 910
  design_room = go (ℕ_discrete (length (set_for v)) 0)
    where
      go : Dec (length (set_for v) ≡ 0) → v * length (set_for v) ≤ 910
      go (yes e) = rw (e, mul-zero v) (omega arith)
      go (no n) = let L = (held_difference v n).developable.limits in mul-le-mul L.v_high L.k_high

  pub set_small : length (set_for v) ≤ 10
  set_small = go (ℕ_discrete (length (set_for v)) 0)
    where
      go : Dec (length (set_for v) ≡ 0) → length (set_for v) ≤ 10
      go (yes e) = omega arith
      go (no n) = (held_difference v n).developable.limits.k_high

  -- a list of that length, filled
  pub filled :
      (d e : List ℕ) → verdict (fill_rules v (length d)) ≡ accepted tt →
      e ≡ kept (verdict (fill_rules v (length d))) (held_design v) d → e ≡ held_design v
  filled d e h q = q ∙ ap (λ o. kept o (held_design v) d) h

-- the first n of 910 numbers
pub part_long : (n : ℕ) (xs : List ℕ) → length xs ≡ 910 → n ≤ 910 → length (take n xs) ≡ n
part_long n xs e h = length-take-le n xs (rw e h)
