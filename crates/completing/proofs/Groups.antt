-- Which losses leave each tuple with at most one group that has two or more lost disks. Assumes nothing.
use Prim.Native.Nat.{ℕ, ◌+◌, ◌*◌, ◌≤◌, ◌<◌}
use mathlib.Core.Path.{◌≡◌, sym, ◌∙◌}
use mathlib.Core.Bool.{Bool, true, false}
use mathlib.Core.Logic.{◌⊎◌, inl, inr}
use mathlib.Core.List.{List}
use lib.Dec.{ltb, eqb}
use lib.ListN.{get_or}
use native.Mathlib.Decide.{ℕ_discrete, dec_lt}
use native.Mathlib.Nat.{suc-mul, mul-le-mul_right}
use native.Mathlib.Omega.{arith}
use borrow.Author.Tests.{ltb-true, ltb-false}
use Rattle.counting.specs.Counting.{count_below, lowest}
use Rattle.counting.proofs.Bools.{bool_either}
use Rattle.counting.proofs.Laws.{lowest_before, lowest_holds, count_add, count_mono}
use Rattle.geometry.specs.declared.Geometry.{Geometry}
use Rattle.geometry.specs.Geometry.{tuples_of, disks_of}
use Rattle.design.specs.Design.{group_at, Laid}
use Rattle.design.proofs.Rows.{row_once, row_ascends}
use Rattle.completing.specs.Theorems.{lost_in_group, lost_disks, OneHeavyGroup}

-- two blocks of g numbers: what passes in them is at most what passes below v·g
two_blocks :
    (f : ℕ → Bool) (v g a c : ℕ) → a < c → c < v →
    count_below (λ (i : ℕ). f (a * g + i)) g + count_below (λ (i : ℕ). f (c * g + i)) g ≤ count_below f (v * g)
two_blocks f v g a c h q =
    let up-to-c : a * g + g ≤ c * g = omega (arith, mul-le-mul_right g h, suc-mul a g) in
    let up-to-v : c * g + g ≤ v * g = omega (arith, mul-le-mul_right g q, suc-mul c g) in
    omega (
      arith,
      count_add f (a * g) g,
      count_mono f (a * g + g) (c * g) up-to-c,
      count_add f (c * g) g,
      count_mono f (c * g + g) (v * g) up-to-v,
    )

-- how many columns of the region at position l of tuple t are lost
abbrev pub lost_at : Geometry → List ℕ → (marks : List ℕ) → (t l : ℕ) → ℕ
lost_at G d marks t l = lost_in_group G marks (group_at G.k d t l)

-- a position with two or more lost columns, the lowest; k where there is none
abbrev pub heavy_position : Geometry → List ℕ → (marks : List ℕ) → (t : ℕ) → ℕ
heavy_position G d marks t = lowest (λ (l : ℕ). ltb 1 (lost_at G d marks t l)) G.k

-- at every other position at most one column is lost
pub others_light :
    (G : Geometry) (d marks : List ℕ) (t : ℕ) → OneHeavyGroup G d marks t → (l : ℕ) → l < G.k →
    (l ≡ heavy_position G d marks t → ⊥) → lost_at G d marks t l ≤ 1
others_light G d marks t one l hl ne = cases (bool_either (heavy l)) (dec_lt l (lowest heavy G.k))
  where
    heavy : ℕ → Bool
    heavy n = ltb 1 (lost_at G d marks t n)

    cases : (heavy l ≡ true) ⊎ (heavy l ≡ false) → Dec (l < lowest heavy G.k) → lost_at G d marks t l ≤ 1
    cases (inr e) z = ltb-false 1 (lost_at G d marks t l) e
    cases (inl e) (yes z) = ltb-false 1 (lost_at G d marks t l) (lowest_before heavy G.k l z)
    cases (inl e) (no z) =
        let low : lowest heavy G.k < G.k = omega arith in
        absurd (ne (one l (lowest heavy G.k) hl low (ltb-true 1 (lost_at G d marks t l) e)
        (ltb-true 1 (lost_at G d marks t (lowest heavy G.k)) (lowest_holds heavy G.k low))))

module _ (G : Geometry) (d marks : List ℕ) (L : Laid G d) (t : ℕ) (ht : t < tuples_of G) where
  -- "at most three disks lost at a time": two groups with two each were four
  two_heavy : (l m : ℕ) → l < m → m < G.k → lost_at G d marks t l + lost_at G d marks t m ≤ lost_disks G marks
  unfolding disks_of
  two_heavy l m h q =
      two_blocks (λ (x : ℕ). eqb (get_or marks x 0) 1) G.v G.g (group_at G.k d t l) (group_at G.k d t m)
      (row_ascends G.v G.k (tuples_of G) d L.design t ht l m h q) (L.design.groups t m ht q)

  pub three_disks : lost_disks G marks ≤ 3 → OneHeavyGroup G d marks t
  three_disks few l m hl hm p q = cases (dec_lt l m) (dec_lt m l)
    where
      cases : Dec (l < m) → Dec (m < l) → l ≡ m
      cases (yes h) z = absurd (omega (arith, two_heavy l m h hm))
      cases (no h) (yes z) = absurd (omega (arith, two_heavy m l z hl))
      cases (no h) (no z) = omega arith

  -- a group and at most one disk of every other: a tuple names the group once
  pub one_group :
      (heavy : ℕ) → ((a : ℕ) → a < G.v → (a ≡ heavy → ⊥) → lost_in_group G marks a ≤ 1) → OneHeavyGroup G d marks t
  one_group heavy light l m hl hm p q =
      row_once G.v G.k (tuples_of G) d L.design t ht l m hl hm (is_heavy l hl p ∙ sym (is_heavy m hm q))
    where
      is_heavy : (n : ℕ) → n < G.k → 2 ≤ lost_at G d marks t n → group_at G.k d t n ≡ heavy
      is_heavy n h y = cases (ℕ_discrete (group_at G.k d t n) heavy)
        where
          cases : Dec (group_at G.k d t n ≡ heavy) → group_at G.k d t n ≡ heavy
          cases (yes e) = e
          cases (no e) = absurd (omega (arith, light (group_at G.k d t n) (L.design.groups t n ht h) e))
