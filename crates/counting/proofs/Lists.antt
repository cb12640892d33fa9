-- The laws of `list_of`. Assumes nothing.
use Prim.Native.Nat.{ℕ, zero, suc, ◌<◌, ◌≤◌}
use mathlib.Core.Path.{◌≡◌, refl}
use mathlib.Core.Logic.{◌⊎◌, inl, inr}
use mathlib.Core.Bool.{true, false}
use mathlib.Core.List.{[], ◌∷◌, ◌++◌}
use native.Mathlib.Nat.{not-suc-le-zero}
use native.Mathlib.Omega.{arith}
use lib.Dec.{ltb}
use lib.ListN.{length, get_or, length-append, get_or-append}
use lib.Seq.{get_or_at}
use borrow.Author.Tests.{ltb-true, ltb-false}
use Rattle.counting.specs.Lists.{list_of}
use Rattle.counting.proofs.Bools.{bool_either}

pub list_of_suc : (f : ℕ → ℕ) (n : ℕ) → list_of f (suc n) ≡ list_of f n ++ (f n ∷ [])
unfolding list_of
list_of_suc f n = refl

pub list_of_length : (f : ℕ → ℕ) (n : ℕ) → length (list_of f n) ≡ n
unfolding list_of
list_of_length f zero = refl
list_of_length f (suc n) =
    let e : length (list_of f n) ≡ n = list_of_length f n in
    rw length-append (omega arith)

pub list_of_at : (f : ℕ → ℕ) (n i d : ℕ) → i < n → get_or (list_of f n) i d ≡ f i
list_of_at f zero i d h = absurd (not-suc-le-zero h)
list_of_at f (suc n) i d h = go (bool_either (ltb i n)) (λ (p : i < n). list_of_at f n i d p)
  where
    go : (ltb i n ≡ true) ⊎ (ltb i n ≡ false) → (i < n → get_or (list_of f n) i d ≡ f i) → get_or (list_of f (suc n)) i d ≡ f i
    go (inl p) ih =
        let q : i < n = ltb-true i n p in
        let l : i < length (list_of f n) = omega (arith, list_of_length f n) in
        rw (list_of_suc f n, get_or-append (list_of f n) (f n ∷ []) d i l) (ih q)
    go (inr p) ih =
        let q : n ≤ i = ltb-false i n p in
        let e : i ≡ n = omega arith in
        rw (e, list_of_suc f n) (get_or_at (list_of f n) (f n) [] d n (list_of_length f n))
