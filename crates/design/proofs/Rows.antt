-- The rows of a design, in words and by tests: which groups a row names, and that it names each once. Assumes nothing.
use Prim.Native.Nat.{ℕ, ◌+◌, ◌-◌, ◌*◌, ◌/◌, ◌<◌}
use mathlib.Core.Path.{◌≡◌, refl, sym, ap, ◌∙◌}
use mathlib.Core.Bool.{Bool, true, false, ◌&&◌}
use mathlib.Core.List.{List}
use lib.Dec.{eqb}
use lib.Arith.{digits_div}
use native.Mathlib.Nat.{mul-one, mul-sub}
use native.Mathlib.Omega.{arith}
use native.Mathlib.Decide.{dec_lt}
use borrow.Author.Tests.{eq-eqb, eqb-true, ne_eqb, ltb-true}
use Rattle.counting.specs.Counting.{lowest, count_below}
use Rattle.counting.proofs.Ascending.{ascends_far}
use Rattle.counting.proofs.Bools.{and_both, both_and}
use Rattle.counting.proofs.Laws.{any_true, any_witness, any_none, lowest_is, lowest_holds, count_same, count_one}
use Rattle.counting.proofs.Sums.{
  sum_below,
  one_if,
  sum_same,
  sum_scaled,
  sum_but_one,
  count_as_sum,
  count_where,
  count_exchange,
  count_once,
  count_among,
}
use Rattle.geometry.specs.Geometry.{r_of}
use Rattle.design.specs.Design.{group_at, names, InRow, OneRow, Design}
use Rattle.design.specs.Theorems.{EachGroupInRRows}

-- the test that position l of row t holds group a
abbrev pub holds : ℕ → List ℕ → ℕ → ℕ → ℕ → Bool
holds k d a t l = eqb (group_at k d t l) a

-- the lowest position of row t that holds group a
abbrev pub position : ℕ → List ℕ → ℕ → ℕ → ℕ
position k d a t = lowest (holds k d a t) k

-- the test that groups a and c stand together in row t
abbrev pub together : ℕ → List ℕ → ℕ → ℕ → ℕ → Bool
together k d a c t = names k d a t && names k d c t

and_self : (x : Bool) → (x && x) ≡ x
and_self true = refl
and_self false = refl

module _ (k : ℕ) (d : List ℕ) (a t : ℕ) where
  pub names_in : names k d a t ≡ true → InRow k d a t
  unfolding names
  names_in h =
      let w = any_witness (holds k d a t) k h in
      (w.0, w.1, eqb-true (group_at k d t w.0) a w.2)

  pub in_names : InRow k d a t → names k d a t ≡ true
  unfolding names
  in_names h = any_true (holds k d a t) k h.0 h.1 (eq-eqb (group_at k d t h.0) a h.2)

  -- a row that does not name the group holds it at no position
  pub not_named : names k d a t ≡ false → (l : ℕ) → l < k → holds k d a t l ≡ false
  unfolding names
  not_named h = any_none (holds k d a t) k h

  -- the position of a group in a row that names it
  pub position_lt : names k d a t ≡ true → position k d a t < k
  unfolding names
  position_lt h = ltb-true (position k d a t) k h

  pub position_holds : names k d a t ≡ true → group_at k d t (position k d a t) ≡ a
  position_holds h =
      eqb-true (group_at k d t (position k d a t)) a (lowest_holds (holds k d a t) k (position_lt h))

module _ (v k b : ℕ) (d : List ℕ) (D : Design v k b d) (t : ℕ) (ht : t < b) where
  -- "Rows ascend strictly", from any position to any later one
  pub row_ascends : (l m : ℕ) → l < m → m < k → group_at k d t l < group_at k d t m
  row_ascends = ascends_far (group_at k d t) k (λ (l : ℕ). D.ascending t l ht)

  -- a row holds each group at most once
  pub row_once : (l m : ℕ) → l < k → m < k → group_at k d t l ≡ group_at k d t m → l ≡ m
  row_once l m hl hm e = cases (dec_lt l m) (dec_lt m l)
    where
      cases : Dec (l < m) → Dec (m < l) → l ≡ m
      cases (yes p) q = let y = row_ascends l m p hm in omega arith
      cases (no p) (yes q) = let y = row_ascends m l q hl in omega arith
      cases (no p) (no q) = omega arith

  -- so the group at position l stands at position l and nowhere before
  pub position_is : (l a : ℕ) → l < k → group_at k d t l ≡ a → position k d a t ≡ l
  position_is l a hl e =
      lowest_is (holds k d a t) k l hl (eq-eqb (group_at k d t l) a e)
      (λ i q. ne_eqb (group_at k d t i) a (λ y. let z : i ≡ l = row_once i l (omega arith) hl (y ∙ sym e) in omega arith))

  -- how often a row holds a group: once if it names it, else never
  pub row_count : (a : ℕ) → count_below (holds k d a t) k ≡ one_if (names k d a t)
  unfolding names
  row_count a =
      count_once (holds k d a t) k
      (λ i j p q x y.
      row_once i j p q (eqb-true (group_at k d t i) a x ∙ sym (eqb-true (group_at k d t j) a y)))

  -- a row names k groups
  pub row_size : count_below (λ (c : ℕ). names k d c t) v ≡ k
  unfolding names
  row_size = count_among (group_at k d t) k v (λ l q. D.groups t l ht q) row_once

-- each two groups stand together in exactly one row, whichever is named first
pub pair_once : (v k b : ℕ) (d : List ℕ) → Design v k b d → (a c : ℕ) → a < v → c < v → (a ≡ c → ⊥) → OneRow k b d a c
pair_once v k b d D a c ha hc ne = cases (dec_lt a c)
  where
    cases : Dec (a < c) → OneRow k b d a c
    cases (yes h) = D.pairs a c h hc
    cases (no h) =
        let o : OneRow k b d c a = D.pairs c a (omega arith) ha in
        record {
          tuple = o.tuple;
          below = o.below;
          left = o.right;
          right = o.left;
          only = λ s q x y. o.only s q y x;
        }

-- "exactly one row" by counting
pub one_row_count : (k b : ℕ) (d : List ℕ) (a c : ℕ) → OneRow k b d a c → count_below (together k d a c) b ≡ 1
one_row_count k b d a c o =
    count_one (together k d a c) b o.tuple o.below
    (both_and (names k d a o.tuple) (names k d c o.tuple) (in_names k d a o.tuple o.left)
    (in_names k d c o.tuple o.right))
    (λ s q e.
    let both = and_both (names k d a s) (names k d c s) e in
    o.only s q (names_in k d a s both.0) (names_in k d c s both.1))

-- "So r = (v-1)/(k-1)": the members of the rows that name a group are that group, once a row, and each other group, once
module _ (v k b : ℕ) (d : List ℕ) (D : Design v k b d) (a : ℕ) (ha : a < v) where
  -- row by row: k members of each that names a
  by_rows :
      sum_below (λ (t : ℕ). count_below (λ (c : ℕ). together k d a c t) v) b ≡ count_below (names k d a) b * k
  by_rows =
      sum_same (λ (t : ℕ). count_below (λ (c : ℕ). together k d a c t) v) (λ (t : ℕ). one_if (names k d a t) * k) b
      (λ t q.
      count_where (names k d a t) (λ (c : ℕ). names k d c t) v
      ∙ ap (λ (x : ℕ). one_if (names k d a t) * x) (row_size v k b d D t q))
      ∙ sum_scaled (λ (t : ℕ). one_if (names k d a t)) k b
      ∙ ap (λ (x : ℕ). x * k) (sym (count_as_sum (names k d a) b))

  -- group by group: a in all its rows, and each other in one
  by_groups : sum_below (λ (c : ℕ). count_below (together k d a c) b) v + 1 ≡ count_below (names k d a) b + v
  by_groups =
      omega (
        arith,
        count_same (together k d a a) (names k d a) b (λ t q. and_self (names k d a t)),
        mul-one v,
        sum_but_one (λ (c : ℕ). count_below (together k d a c) b) v a 1 ha
            (λ c q ne. one_row_count k b d a c (pair_once v k b d D a c ha q (λ e. ne (sym e)))),
      )

  pub rows_of_group : count_below (names k d a) b * k + 1 ≡ count_below (names k d a) b + v
  rows_of_group =
      ap (λ (x : ℕ). x + 1) (sym by_rows ∙ count_exchange (λ (t c : ℕ). together k d a c t) b v) ∙ by_groups

-- a design gives every group exactly r rows
pub each_group_in_r_rows : EachGroupInRRows
unfolding r_of
each_group_in_r_rows v k b d hk D a ha =
    let rows : ℕ = count_below (names k d a) b in
    let times : rows * (k - 1) + 0 ≡ v - 1 = omega (arith, rows_of_group v k b d D a ha, mul-sub rows k 1, mul-one rows) in
    sym (digits_div rows {m = k - 1} {r = 0} (omega arith)) ∙ ap (λ (n : ℕ). n / (k - 1)) times
