-- How many triples of a plan pass a test: the sum, over the disk's units, of how many members of the unit's set pass.
-- Assumes nothing.
use Prim.Native.Nat.{ℕ, zero, suc, ◌+◌, ◌≤◌, ◌<◌}
use mathlib.Core.Path.{◌≡◌, refl, sym, ap, ap₂, ◌∙◌}
use mathlib.Core.Bool.{Bool, true, false, not, ◌&&◌, cond}
use mathlib.Core.Logic.{◌⊎◌, inl, inr}
use mathlib.Core.List.{List, [], ◌∷◌, ◌++◌}
use native.Mathlib.Decide.{ℕ_discrete}
use native.Mathlib.Omega.{arith}
use lib.Dec.{eqb}
use borrow.Author.Tests.{eqb-true}
use Rattle.counting.specs.Counting.{count_below, any_below, one_more_if}
use Rattle.counting.proofs.Bools.{bool_either}
use Rattle.counting.proofs.Laws.{any_witness, any_none, count_zero, count_suc, count_le, count_none, count_one}
use Rattle.counting.proofs.Sums.{sum_below, one_if, sum_but_one, count_next, count_among}
use Rattle.geometry.specs.declared.Geometry.{Geometry}
use Rattle.cells.specs.declared.Cell.{Cell}
use Rattle.layout.specs.Places.{place_of}
use Rattle.sources.specs.Plan.{lists_of, triple, others}
use Rattle.onedisk.specs.Sources.{Triple, triples_in, count_in}
use Rattle.onedisk.proofs.Triples.{Threes, threes_lists, threes_others, triples_append}

-- ---- a sum of counts
module _ (C : ℕ → ℕ → Bool) (size : ℕ → ℕ) (n : ℕ) where
  abbrev pub total : ℕ
  total = sum_below (λ (y : ℕ). count_below (C y) (size y)) n

  pub total_none : ((y e : ℕ) → y < n → e < size y → C y e ≡ false) → total ≡ 0
  unfolding sum_below
  total_none h = go n (λ y l. count_none (C y) (size y) (λ e q. h y e l q))
    where
      go : (m : ℕ) → ((y : ℕ) → y < m → count_below (C y) (size y) ≡ 0) → sum_below (λ (y : ℕ). count_below (C y) (size y)) m ≡ 0
      go zero h = refl
      go (suc m) h = omega (arith, go m (λ y l. h y (omega arith)), h m (omega arith))

  -- one pair passes, and no other
  pub total_one :
      (y e : ℕ) → y < n → e < size y → C y e ≡ true →
      ((z i : ℕ) → z < n → i < size z → C z i ≡ true → (z ≡ y) × (i ≡ e)) → total ≡ 1
  total_one y e hy he c only =
      let here : count_below (C y) (size y) ≡ 1 = count_one (C y) (size y) e he c (λ i l q. (only y i hy l q).1) in
      let sum =
      sum_but_one (λ (z : ℕ). count_below (C z) (size z)) n y 0 hy
      (λ z l ne. count_none (C z) (size z) (λ i q. fails z i (bool_either (C z i)) (λ w. ne (only z i l q w).0)))
      in
      omega (arith, here, sum)
    where
      fails : (z i : ℕ) → (C z i ≡ true) ⊎ (C z i ≡ false) → (C z i ≡ true → ⊥) → C z i ≡ false
      fails z i (inl w) no_hit = absurd (no_hit w)
      fails z i (inr w) no_hit = w

  -- any two that pass are one
  pub total_low :
      ((y e z i : ℕ) → y < n → e < size y → z < n → i < size z → C y e ≡ true → C z i ≡ true → (z ≡ y) × (i ≡ e)) →
      total ≤ 1
  total_low same = go (any_below (λ (y : ℕ). any_below (C y) (size y)) n) refl
    where
      go : (b : Bool) → any_below (λ (y : ℕ). any_below (C y) (size y)) n ≡ b → total ≤ 1
      go true e =
          let w = any_witness (λ (y : ℕ). any_below (C y) (size y)) n e in
          let v = any_witness (C w.0) (size w.0) w.2 in
          omega (
            arith,
            total_one w.0 v.0 w.1 v.1 v.2
                (λ z i l q c. same w.0 v.0 z i w.1 v.1 l q v.2 c),
          )
      go false e =
          omega (
            arith,
            total_none (λ y i l q.
                any_none (C y) (size y) (any_none (λ (y : ℕ). any_below (C y) (size y)) n e y l) i q),
          )

-- ---- numbers below n, each once, are all of them
all_counted : (f : ℕ → Bool) (n : ℕ) → count_below f n ≡ n → (i : ℕ) → i < n → f i ≡ true
all_counted f zero h i l = absurd (omega arith)
all_counted f (suc n) h i l = go (bool_either (f n)) (all_counted f n)
  where
    go : (f n ≡ true) ⊎ (f n ≡ false) → (count_below f n ≡ n → (i : ℕ) → i < n → f i ≡ true) → f i ≡ true
    go (inl e) ih =
        cases (ℕ_discrete i n) (ih (let z : suc (count_below f n) ≡ suc n = sym (count_suc f n ∙ rw e refl) ∙ h in omega arith) i)
      where
        cases : Dec (i ≡ n) → (i < n → f i ≡ true) → f i ≡ true
        cases (yes q) before = rw q e
        cases (no q) before = before (omega arith)
    go (inr e) ih = let z : count_below f n ≡ suc n = sym (count_suc f n ∙ rw e refl) ∙ h in absurd (omega (arith, count_le f n))

pub each_met :
    (f : ℕ → ℕ) (n : ℕ) → ((i : ℕ) → i < n → f i < n) → ((i j : ℕ) → i < n → j < n → f i ≡ f j → i ≡ j) →
    (c : ℕ) → c < n → (i : ℕ) × (i < n) × (f i ≡ c)
each_met f n low once c h =
    let met = all_counted (λ (c : ℕ). any_below (λ (i : ℕ). eqb (f i) c) n) n (count_among f n n low once) c h in
    let w = any_witness (λ (i : ℕ). eqb (f i) c) n met in
    (w.0, w.1, eqb-true (f w.0) c w.2)

-- ---- over lists of triples

-- the triple that gives the cell's unit for unit z
abbrev pub triple_at : Geometry → List ℕ → (z : ℕ) → Cell → Triple
triple_at G d z x = record { restores = z; disk = (place_of G d x).disk.0; unit = (place_of G d x).unit.0 }

module _ (f : Triple → Bool) where
  abbrev counted : List ℕ → ℕ
  counted xs = count_in f (triples_in xs)

  more_add : (b : Bool) (m n : ℕ) → one_more_if b (m + n) ≡ one_more_if b m + n
  more_add true m n = omega arith
  more_add false m n = refl

  count_triples : (xs ys : List Triple) → count_in f (xs ++ ys) ≡ count_in f xs + count_in f ys
  unfolding count_in
  count_triples [] ys = omega arith
  count_triples (s ∷ xs) ys =
      ap (one_more_if (f s)) (count_triples xs ys) ∙ more_add (f s) (count_in f xs) (count_in f ys)

  counted_append : (xs ys : List ℕ) → Threes xs → counted (xs ++ ys) ≡ counted xs + counted ys
  counted_append xs ys p = ap (count_in f) (triples_append xs ys p) ∙ count_triples (triples_in xs) (triples_in ys)

  counted_none : counted [] ≡ 0
  unfolding triples_in count_in
  counted_none = refl

  pub counted_lists :
      (F : ℕ → List ℕ) (n : ℕ) → ((i : ℕ) → Threes (F i)) → counted (lists_of F n) ≡ sum_below (λ (i : ℕ). counted (F i)) n
  unfolding lists_of sum_below
  counted_lists F zero h = counted_none
  counted_lists F (suc n) h =
      counted_append (lists_of F n) (F n) (threes_lists F n h)
      ∙ ap (λ (m : ℕ). m + counted (F n)) (counted_lists F n h)

  module _ (G : Geometry) (d : List ℕ) (z : ℕ) where
    counted_triple : (x : Cell) → counted (triple G d z x) ≡ one_if (f (triple_at G d z x))
    unfolding triples_in count_in
    counted_triple x = refl

    pub counted_others :
        (member : ℕ → Cell) (q n : ℕ) →
        counted (others G d z member q n) ≡ count_below (λ (e : ℕ). not (eqb e q) && f (triple_at G d z (member e))) n
    unfolding lists_of
    counted_others member q zero = counted_none ∙ sym (count_zero _)
    counted_others member q (suc n) =
        counted_append (others G d z member q n) (cond (eqb n q) [] (triple G d z (member n))) (threes_others G d z member q n)
        ∙ ap₂ (λ (a b : ℕ). a + b) (counted_others member q n) (go (eqb n q))
        ∙ sym (count_next (λ (e : ℕ). not (eqb e q) && f (triple_at G d z (member e))) n)
      where
        go : (b : Bool) → counted (cond b [] (triple G d z (member n))) ≡ one_if (not b && f (triple_at G d z (member n)))
        go true = counted_none
        go false = counted_triple (member n)
