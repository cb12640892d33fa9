-- Entries of the pair table: where they lie, and which are bad. Assumes nothing.
use Prim.Native.Nat.{ℕ, ◌+◌, ◌-◌, ◌*◌, ◌/◌, ◌%◌, ◌≤◌, ◌<◌, min}
use mathlib.Core.Path.{◌≡◌, sym, ap₂, ◌∙◌}
use mathlib.Core.Bool.{Bool, true, false, not}
use mathlib.Core.Logic.{◌⊎◌, inl, inr}
use mathlib.Core.List.{List}
use native.Mathlib.Decide.{dec_lt}
use native.Mathlib.Nat.{suc-mul, mod-lt}
use native.Mathlib.Numerals.{add-one}
use native.Mathlib.Omega.{arith}
use lib.Arith.{digits_lt, digits_div, digits_mod}
use lib.Dec.{ltb, eqb}
use lib.ListN.{get_or}
use borrow.Author.Tests.{ltb-true, lt-ltb, le-ltb, eq-eqb, ne_eqb, eqb-true, eqb-false}
use Rattle.std.specs.Prelude.{Option, Some, None, MatchOption}
use Rattle.counting.specs.Counting.{some_if, first_below}
use Rattle.counting.proofs.Bools.{bool_either, both_and, and_left_false, and_right_false, not_is_true, not_is_false}
use Rattle.counting.proofs.Laws.{lowest_holds, lowest_before, lowest_same, any_none, any_same, first_is, first_none, first_some, first_silent}
use Rattle.geometry.specs.Geometry.{b_of}
use Rattle.checking.specs.Rules.{rows_with, pair_bad}
use Rattle.checking.specs.Table.{Counted, entry_bad, number_bad}

-- ---- bad entries

pub entry_bad_lem : (v : ℕ) (table : List ℕ) (a c : ℕ) → a < c → (get_or table (a * v + c) 0 ≡ 1 → ⊥) → entry_bad v table a c ≡ true
unfolding entry_bad
entry_bad_lem v table a c h p =
    both_and (ltb a c) (not (eqb (get_or table (a * v + c) 0) 1)) (lt-ltb a c h)
    (not_is_true (eqb (get_or table (a * v + c) 0) 1) (ne_eqb (get_or table (a * v + c) 0) 1 p))

pub entry_good : (v : ℕ) (table : List ℕ) (a c : ℕ) → get_or table (a * v + c) 0 ≡ 1 → entry_bad v table a c ≡ false
unfolding entry_bad
entry_good v table a c p =
    and_right_false (ltb a c) (not (eqb (get_or table (a * v + c) 0) 1))
    (not_is_false (eqb (get_or table (a * v + c) 0) 1) (eq-eqb (get_or table (a * v + c) 0) 1 p))

pub entry_no_pair : (v : ℕ) (table : List ℕ) (a c : ℕ) → c ≤ a → entry_bad v table a c ≡ false
unfolding entry_bad
entry_no_pair v table a c h =
    and_left_false (ltb a c) (not (eqb (get_or table (a * v + c) 0) 1)) (le-ltb a c h)

-- what a search for a bad entry finds among the c behind a
pub record Searched (v : ℕ) (table : List ℕ) (a : ℕ) (r : Option ℕ) : Type 0 where
  pub line : a < v
  pub found :
      MatchOption r ((c : ℕ) → a + 1 ≤ c → c < v → get_or table (a * v + c) 0 ≡ 1)
      (λ c. (a + 1 ≤ c) × (c < v) × (get_or table (a * v + c) 0 ≡ 1 → ⊥) × ((j : ℕ) → a + 1 ≤ j → j < c → get_or table (a * v + j) 0 ≡ 1))

pub first_entry : (v : ℕ) (table : List ℕ) (a : ℕ) (r : Option ℕ) → Searched v table a r → r ≡ first_below (entry_bad v table a) v
first_entry v table a None s = sym (first_none (entry_bad v table a) v (λ (j : ℕ) (q : j < v). go j q (dec_lt a j)))
  where
    go : (j : ℕ) → j < v → Dec (a < j) → entry_bad v table a j ≡ false
    go j q (yes h) = entry_good v table a j (s.found j (omega arith) q)
    go j q (no h) = entry_no_pair v table a j (omega arith)
first_entry v table a (Some c) s =
    let w = s.found in
    sym
    (first_is (entry_bad v table a) v c w.1 (entry_bad_lem v table a c (omega arith) w.2)
    (λ (j : ℕ) (q : j < c). go j q (dec_lt a j)))
  where
    go : (j : ℕ) → j < c → Dec (a < j) → entry_bad v table a j ≡ false
    go j q (yes h) = entry_good v table a j (s.found.3 j (omega arith) q)
    go j q (no h) = entry_no_pair v table a j (omega arith)

-- ---- all pairs: lines of v numbers, a·v to a·v+v-1

number_bad_lem : (v : ℕ) (table : List ℕ) (a c : ℕ) → c < v → number_bad v table (a * v + c) ≡ entry_bad v table a c
number_bad_lem v table a c h = rw (digits_div a h, digits_mod a h)

-- no number of the first `a` lines is bad
pub record LinesGood (v : ℕ) (table : List ℕ) (a : ℕ) : Type 0 where
  pub before : (m : ℕ) → m < a * v → number_bad v table m ≡ false

module _ (v : ℕ) (table : List ℕ) (a : ℕ) (g : LinesGood v table a) where
  -- nor one of the first c numbers of the next line
  line_good : (c : ℕ) → c ≤ v → ((j : ℕ) → j < c → entry_bad v table a j ≡ false) → (m : ℕ) → m < a * v + c → number_bad v table m ≡ false
  line_good c q line m p = go (dec_lt m (a * v))
    where
      go : Dec (m < a * v) → number_bad v table m ≡ false
      go (yes h) = g.before m h
      go (no h) =
          let e : m ≡ a * v + (m - a * v) = omega arith in
          let j : m - a * v < c = omega arith in
          rw e (number_bad_lem v table a (m - a * v) (omega arith) ∙ line (m - a * v) j)

  pub lines_next : first_below (entry_bad v table a) v ≡ None → LinesGood v table (a + 1)
  lines_next e =
      let n : (a + 1) * v ≡ a * v + v = rw (add-one a) (suc-mul a v) in
      record { before = rw n (line_good v (omega arith) (any_none (entry_bad v table a) v (first_silent (entry_bad v table a) v e))) }

  pub line_found : (c : ℕ) → a < v → first_below (entry_bad v table a) v ≡ Some c → Some (a * v + c) ≡ first_below (number_bad v table) (v * v)
  line_found c h e =
      let w = first_some (entry_bad v table a) v c e in
      let bad : entry_bad v table a c ≡ true = rw w.1 (lowest_holds (entry_bad v table a) v (rw w.1 at w.2)) in
      sym
      (first_is (number_bad v table) (v * v) (a * v + c) (digits_lt h w.2) (number_bad_lem v table a c w.2 ∙ bad)
      (line_good c (omega arith) (λ (j : ℕ) (q : j < c). lowest_before (entry_bad v table a) v j (rw (← w.1) q))))

pub lines_all : (v : ℕ) (table : List ℕ) → LinesGood v table v → None ≡ first_below (number_bad v table) (v * v)
lines_all v table g = sym (first_none (number_bad v table) (v * v) g.before)

-- ---- the table after all rows

first_same : (f h : ℕ → Bool) (n : ℕ) → ((i : ℕ) → i < n → f i ≡ h i) → first_below f n ≡ first_below h n
first_same f h n e = ap₂ some_if (any_same f h n e) (lowest_same f h n e)

min_one : (n : ℕ) → eqb (min n 2) 1 ≡ eqb n 1
min_one n = go (bool_either (eqb n 1))
  where
    go : (eqb n 1 ≡ true) ⊎ (eqb n 1 ≡ false) → eqb (min n 2) 1 ≡ eqb n 1
    go (inl p) = let e : n ≡ 1 = eqb-true n 1 p in eq-eqb (min n 2) 1 (omega arith) ∙ sym p
    go (inr p) =
        ne_eqb (min n 2) 1 (λ (e : min n 2 ≡ 1). eqb-false n 1 p (omega arith)) ∙ sym p

-- the table's bad entries are the bad pairs
pub counted_pairs :
    (v k : ℕ) (d table : List ℕ) → 1 ≤ v → Counted v k (b_of v k) d table
    → first_below (number_bad v table) (v * v) ≡ first_below (pair_bad v k d) (v * v)
unfolding pair_bad entry_bad
counted_pairs v k d table h r =
    first_same (number_bad v table) (pair_bad v k d) (v * v)
    (λ (m : ℕ) (q : m < v * v). go m (bool_either (ltb (m / v) (m % v))))
  where
    go : (m : ℕ) → (ltb (m / v) (m % v) ≡ true) ⊎ (ltb (m / v) (m % v) ≡ false) → number_bad v table m ≡ pair_bad v k d m
    go m (inl p) =
        let t : get_or table (m / v * v + m % v) 0 ≡ min (rows_with k (b_of v k) d (m / v) (m % v)) 2 = r.each (m / v) (m % v) (ltb-true (m / v) (m % v) p) (mod-lt m h) in
        rw (t, min_one)
    go m (inr p) = rw p
