-- Rows that ascend, and what 4 asks of a row. Assumes nothing.
use Prim.Native.Nat.{ℕ, ◌+◌, ◌-◌, ◌≤◌, ◌<◌}
use mathlib.Core.Path.{◌≡◌, sym, ap, ◌∙◌}
use mathlib.Core.Bool.{Bool, true, false}
use mathlib.Core.Logic.{inl, inr}
use mathlib.Core.List.{List}
use native.Mathlib.Decide.{dec_lt}
use native.Mathlib.Omega.{arith}
use lib.Dec.{leb, ltb}
use lib.ListN.{length, get_or}
use borrow.Author.Tests.{le-leb, lt-leb, ltb-true, ltb-false}
use denote.Ref.{Bor}
use Rattle.std.specs.Prelude.{Option, Some, None, MatchOption}
use Rattle.std.specs.List.{HoldsAt, IsAllAdjacentAnswer}
use Rattle.counting.proofs.Ascending.{ascends_le}
use Rattle.counting.proofs.Bools.{bool_not_both}
use Rattle.design.specs.Design.{group_at}
use Rattle.checking.specs.Rules.{row_bad}
use Rattle.checking.specs.Reasons.{BadRow}
use Rattle.refusal.proofs.Firsts.{never_true}
use Rattle.checking.proofs.Words.{row_words, words_row}

-- the first n numbers ascend
pub record Rising (f : ℕ → ℕ) (n : ℕ) : Type 0 where
  pub step : (l : ℕ) → l + 1 < n → f l < f (l + 1)

module _ (v k : ℕ) (d : List ℕ) (t : ℕ) where
  -- in a row that ascends the last group decides
  row_rises : (l : ℕ) → l + 1 ≡ k → Rising (group_at k d t) k → row_bad v k d t ≡ leb v (group_at k d t l)
  row_rises l h r = go (dec_lt (group_at k d t l) v)
    where
      bad : group_at k d t l < v → BadRow v k d t → ⊥
      bad p (inl w) =
          let q : group_at k d t w.0 ≤ group_at k d t l = ascends_le (group_at k d t) k r.step w.0 l (omega arith) (omega arith) in
          omega arith
      bad p (inr w) = let q = r.step w.0 w.1 in omega arith

      go : Dec (group_at k d t l < v) → row_bad v k d t ≡ leb v (group_at k d t l)
      go (yes p) =
          never_true (row_bad v k d t) (λ (e : row_bad v k d t ≡ true). bad p (row_words v k d t e))
          ∙ sym (lt-leb v (group_at k d t l) p)
      go (no p) =
          let q : v ≤ group_at k d t l = omega arith in
          words_row v k d t (inl (l, omega arith, q)) ∙ sym (le-leb v (group_at k d t l) q)

  -- what a row that 4 does not refuse is
  pub good_rising : row_bad v k d t ≡ false → Rising (group_at k d t) k
  good_rising h = record { step = λ (l : ℕ) (q : l + 1 < k). go l q (dec_lt (group_at k d t l) (group_at k d t (l + 1))) }
    where
      go : (l : ℕ) → l + 1 < k → Dec (group_at k d t l < group_at k d t (l + 1)) → group_at k d t l < group_at k d t (l + 1)
      go l q (yes p) = p
      go l q (no p) = bool_not_both (row_bad v k d t) (words_row v k d t (inr (l, q, omega arith))) h

  pub good_below : (l : ℕ) → row_bad v k d t ≡ false → l < k → group_at k d t l < v
  good_below l h q = go (dec_lt (group_at k d t l) v)
    where
      go : Dec (group_at k d t l < v) → group_at k d t l < v
      go (yes p) = p
      go (no p) = bool_not_both (row_bad v k d t) (words_row v k d t (inl (l, q, omega arith))) h

-- ---- a row that is a list of its own

pub row_group : (k : ℕ) (row : List ℕ) (l : ℕ) → group_at k row 0 l ≡ get_or row l 0
unfolding group_at
row_group k row l = ap (λ (x : ℕ). get_or row x 0) (omega arith)

-- what the test of each group and the next answers
abbrev pub AscendsAnswer : List ℕ → Bool → Type 0
AscendsAnswer row r = IsAllAdjacentAnswer (λ x y b. b ≡ ltb x y) row r

-- a row that falls, or stands still, is bad
pub falls_bad : (v : ℕ) (row : List ℕ) (r : Bool) → AscendsAnswer row r → r ≡ false → row_bad v (length row) row 0 ≡ true
falls_bad v row true w e = absurd (cc)
falls_bad v row false w e =
    let h : get_or row (w.0 + 1) 0 ≤ get_or row w.0 0 = ltb-false (get_or row w.0 0) (get_or row (w.0 + 1) 0) (sym (w.2 0)) in
    words_row v (length row) row 0
    (inr (w.0, w.1, rw (row_group (length row) row (w.0 + 1), row_group (length row) row w.0) h))

answer_rises : (row : List ℕ) (r : Bool) → AscendsAnswer row r → r ≡ true → Rising (group_at (length row) row 0) (length row)
answer_rises row true w e =
    record {
      step =
          λ (l : ℕ) (q : l + 1 < length row).
          rw (row_group (length row) row l, row_group (length row) row (l + 1))
          (ltb-true (get_or row l 0) (get_or row (l + 1) 0) (sym (w l 0 q)));
    }
answer_rises row false w e = absurd (cc)

-- a row of no groups is not
none_bad : (v : ℕ) (row : List ℕ) → length row ≤ 0 → row_bad v (length row) row 0 ≡ false
none_bad v row h =
    never_true (row_bad v (length row) row 0) (λ (e : row_bad v (length row) row 0 ≡ true). go (row_words v (length row) row 0 e))
  where
    go : BadRow v (length row) row 0 → ⊥
    go (inl w) = let q : w.0 < length row = w.1 in omega arith
    go (inr w) = let q : w.0 + 1 < length row = w.1 in omega arith

-- in a row that ascends the last group, if there is one, decides
pub last_decides :
    (v : ℕ) (row : List ℕ) (sorted : Bool) (high : Option (Bor ℕ)) (r : Bool) → AscendsAnswer row sorted → sorted ≡ true
    → MatchOption high (length row ≤ 0) (λ x. (0 < length row) × HoldsAt (λ y. x.now ≡ y) row (length row - 1))
    → MatchOption high (r ≡ false) (λ x. r ≡ leb v x.now) → r ≡ row_bad v (length row) row 0
last_decides v row sorted None r w s last e = e ∙ sym (none_bad v row last)
last_decides v row sorted (Some x) r w s last e =
    e
    ∙ ap (leb v) (last.1 0 ∙ sym (row_group (length row) row (length row - 1)))
    ∙ sym (row_rises v (length row) row 0 (length row - 1) (omega arith) (answer_rises row sorted w s))
