-- The blocks of a write. Assumes nothing.
use Prim.Native.Nat.{ℕ, zero, suc, ◌+◌, ◌*◌, ◌<◌}
use mathlib.Core.Path.{◌≡◌, sym, ap, ◌∙◌}
use mathlib.Core.List.{List, []}
use native.Mathlib.Omega.{arith}
use lib.ListN.{get_or, length, take, drop}
use lib.Seq.{drop-drop, take_all}
use Rattle.std.specs.Simd.{first_chunks}
use Rattle.leaves.specs.Bytes.{run}

-- block b of k blocks of n bytes
pub block_is : (n k : ℕ) (xs : List ℕ) (b : ℕ) → b < k → get_or (first_chunks n k xs) b [] ≡ run xs (n * b) n
unfolding run
block_is n zero xs b h = absurd (omega arith)
block_is n (suc k) xs zero h = let e : n * 0 ≡ 0 = omega arith in ap (λ (i : ℕ). take n (drop i xs)) (sym e)
block_is n (suc k) xs (suc b) h =
    let e : n + n * b ≡ n * suc b = omega arith in
    block_is n k (drop n xs) b (omega arith) ∙ ap (take n) (drop-drop (n * b) n xs ∙ ap (λ (i : ℕ). drop i xs) e)

-- what is left after them
pub rest_is : (i : ℕ) (xs rest : List ℕ) → rest ≡ drop i xs → rest ≡ run xs i (length rest)
unfolding run
rest_is i xs rest e = e ∙ sym (take_all (length rest) (drop i xs) (omega (arith, ap length e)))
