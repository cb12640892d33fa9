-- A lent list filled from the front: what it holds after l entries are those of f, and then its old ones. Assumes nothing.
use Prim.Native.Nat.{ℕ, zero, suc, ◌+◌, ◌-◌, ◌<◌}
use mathlib.Core.Path.{◌≡◌, refl, ap₂}
use mathlib.Core.List.{List, [], ◌∷◌, ◌++◌, append_assoc, append-nil}
use native.Mathlib.Nat.{add-zero, add-suc, le_refl}
use native.Mathlib.Numerals.{add-one}
use native.Mathlib.Omega.{arith}
use lib.ListN.{length, get_or, set, drop}
use lib.Seq.{drop-cons, drop-drop, drop_at, take_at, set_at}
use borrow.Rule.Slice.PartMut.{put_mid}
use Rattle.counting.specs.Lists.{list_of}
use Rattle.counting.proofs.Lists.{list_of_length}

abbrev pub Filled : (ℕ → ℕ) → List ℕ → ℕ → List ℕ → Type 0
Filled f d l xs = xs ≡ list_of f l ++ drop l d

list_of_same : (f g : ℕ → ℕ) (n : ℕ) → ((j : ℕ) → j < n → g j ≡ f j) → list_of g n ≡ list_of f n
unfolding list_of
list_of_same f g zero h = refl
list_of_same f g (suc n) h =
    ap₂ (λ (xs : List ℕ) (x : ℕ). xs ++ (x ∷ [])) (list_of_same f g n (λ j q. h j (omega arith))) (h n (le_refl (suc n)))

list_of_add : (f : ℕ → ℕ) (m n : ℕ) → list_of f (m + n) ≡ list_of f m ++ list_of (λ (j : ℕ). f (m + j)) n
unfolding list_of
list_of_add f m zero = rw (add-zero m, append-nil)
list_of_add f m (suc n) = rw (add-suc m n, list_of_add f m n, append_assoc)

module _ (f : ℕ → ℕ) (d : List ℕ) where
  pub filled_none : Filled f d 0 d
  unfolding list_of
  filled_none = refl

  -- one entry more
  pub filled_more : (l x : ℕ) (xs : List ℕ) → l < length d → x ≡ f l → Filled f d l xs → Filled f d (l + 1) (set xs l x)
  unfolding list_of
  filled_more l x xs h y e =
      rw (e, y, add-one l, drop-cons d l 0 h, append_assoc)
      (set_at (list_of f l) (get_or d l 0) (drop (suc l) d) (f l) l (list_of_length f l))

  -- a part more, lent and given back
  pub filled_part :
      (m e k : ℕ) (g : ℕ → ℕ) (xs ys : List ℕ) → e ≡ m + k → ((j : ℕ) → j < k → g j ≡ f (m + j)) →
      ys ≡ list_of g k → Filled f d m xs → Filled f d e (put_mid m (e - m) xs ys)
  filled_part m e k g xs ys q same y x =
      let size : e - m ≡ k = omega arith in
      let start = list_of_length f m in
      rw (
        x,
        y,
        size,
        take_at (list_of f m) (drop m d) m start,
        drop_at (list_of f m) (drop m d) m start,
        drop-drop k m d,
        q,
        list_of_add f m k,
        list_of_same (λ (j : ℕ). f (m + j)) g k same,
        append_assoc,
      )
