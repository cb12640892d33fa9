-- A formatted array is consistent: every sum of zeros is zero; so is what an accepted format leaves, by its own contract.
-- Assumes nothing.
use Prim.Native.Nat.{ℕ, ◌+◌, ◌<◌}
use mathlib.Core.Path.{◌≡◌, refl, sym, ap₂, subst, ◌∙◌}
use mathlib.Core.List.{List, [], ◌∷◌}
use lib.Bits.{bit_xor, xor_zero_r}
use lib.ListN.{replicate}
use contract.Lifetimes.{Lfts}
use denote.Ref.{Bor, MutBor}
use Rattle.geometry.specs.declared.Geometry.{Geometry}
use Rattle.geometry.specs.Geometry.{bytes_of}
use Rattle.leaves.specs.Bytes.{sum_at}
use Rattle.leaves.proofs.Runs.{at_zeros}
use Rattle.leaves.proofs.Zeros.{zero_is}
use Rattle.array.specs.Array.{formatted_array}
use Rattle.array.proofs.TwoResults.{FormatAllowed}
use Rattle.array.proofs.Exact.{format_accepted}
use Rattle.consistent.specs.Consistent.{set_starts, set_zero, Consistent}
use Rattle.consistent.specs.Theorems.{AFormattedArrayIsConsistent}
use Rattle.std.specs.Prelude.{Ok}

pub sum_zeros : (n : ℕ) (ps : List ℕ) (i : ℕ) → sum_at (replicate n 0) ps i ≡ 0
unfolding sum_at
sum_zeros n [] i = refl
sum_zeros n (p ∷ ps) i = ap₂ bit_xor (at_zeros n (p + i)) (sum_zeros n ps i) ∙ xor_zero_r 0

pub a_formatted_array_is_consistent : AFormattedArrayIsConsistent
unfolding formatted_array set_zero
a_formatted_array_is_consistent G d s h =
    zero_is (sum_at (replicate (bytes_of G) 0) (set_starts G d s)) G.u
    (λ (i : ℕ) (l : i < G.u). sum_zeros (bytes_of G) (set_starts G d s) i)

pub format_is_consistent :
    (κs : Lfts 3) (G : Geometry) (design : Bor (List ℕ)) (array marks a m : MutBor (List ℕ)) →
    FormatAllowed κs G design array marks (Ok tt) a m →
    Consistent G design.now a.now
format_is_consistent κs G design array marks a m p =
    subst (λ (x : List ℕ). Consistent G design.now x) (sym (format_accepted κs G design array marks a m p).0)
    (a_formatted_array_is_consistent G design.now)
