-- What the check accepts is a design, and every design is accepted. Assumes nothing.
use Prim.Native.Nat.{ℕ, ◌+◌, ◌*◌, ◌/◌, ◌%◌, ◌<◌}
use mathlib.Core.Path.{◌≡◌, sym, subst₂}
use mathlib.Core.Logic.{◌⊎◌, inl, inr}
use mathlib.Core.Bool.{true, false, ◌&&◌}
use mathlib.Core.List.{List}
use native.Mathlib.Decide.{dec_lt}
use native.Mathlib.Omega.{arith}
use lib.ListN.{length}
use lib.Dec.{eqb}
use lib.Arith.{digits_div, digits_mod, digits_lt}
use borrow.Author.Tests.{eq-eqb, eqb-true, eqb-false, not-false}
use Rattle.counting.proofs.Bools.{bool_either, bool_not_both, and_both, both_and, not_is_false}
use Rattle.counting.proofs.Laws.{any_none, none_any}
use Rattle.refusal.proofs.Answer.{accepted_quiet, quiet_accepted}
use Rattle.geometry.specs.Geometry.{whole, b_of}
use Rattle.geometry.proofs.Laws.{limits_of, of_limits}
use Rattle.design.specs.Design.{group_at, OneRow, Design}
use Rattle.checking.specs.Theorems.{WhatIsAcceptedIsADesign, ADesignIsAccepted}
use Rattle.checking.specs.Rules.{row_bad, rows_with, pair_bad, design_rules}
use Rattle.checking.specs.Reasons.{BadRow, BadPair}
use Rattle.refusal.proofs.Firsts.{never_true}
use Rattle.checking.proofs.Words.{row_words, words_row, one_row, row_one, pair_words, words_pair}
pub use Rattle.checking.proofs.Words.{whole_parts}

-- the bound of a row's groups, and that they ascend, where the row is not bad
fine_low : (v k : ℕ) (d : List ℕ) (t l : ℕ) → row_bad v k d t ≡ false → l < k → group_at k d t l < v
fine_low v k d t l h hl = go (dec_lt (group_at k d t l) v)
  where
    go : Dec (group_at k d t l < v) → group_at k d t l < v
    go (yes e) = e
    go (no e) = bool_not_both (row_bad v k d t) (words_row v k d t (inl (l, hl, omega arith))) h

fine_ascends : (v k : ℕ) (d : List ℕ) (t l : ℕ) → row_bad v k d t ≡ false → l + 1 < k → group_at k d t l < group_at k d t (l + 1)
fine_ascends v k d t l h hl = go (dec_lt (group_at k d t l) (group_at k d t (l + 1)))
  where
    go : Dec (group_at k d t l < group_at k d t (l + 1)) → group_at k d t l < group_at k d t (l + 1)
    go (yes e) = e
    go (no e) = bool_not_both (row_bad v k d t) (words_row v k d t (inr (l, hl, omega arith))) h

-- a pair of groups stands in exactly one row where its number is not bad
fine_pair : (v k : ℕ) (d : List ℕ) (a c : ℕ) → pair_bad v k d (a * v + c) ≡ false → a < c → c < v → OneRow k (b_of v k) d a c
fine_pair v k d a c h ha hc = go (bool_either (eqb (rows_with k (b_of v k) d a c) 1))
  where
    go : (eqb (rows_with k (b_of v k) d a c) 1 ≡ true) ⊎ (eqb (rows_with k (b_of v k) d a c) 1 ≡ false) → OneRow k (b_of v k) d a c
    go (inl e) = one_row k (b_of v k) d a c (eqb-true (rows_with k (b_of v k) d a c) 1 e)
    go (inr e) =
        let bad : BadPair v k d a c =
        (ha, hc, λ (o : OneRow k (b_of v k) d a c). eqb-false (rows_with k (b_of v k) d a c) 1 e (row_one k (b_of v k) d a c o)) in
        bool_not_both (pair_bad v k d (a * v + c))
        (words_pair v k d (a * v + c)
        (subst₂ (λ (x y : ℕ). BadPair v k d x y) (sym (digits_div a hc)) (sym (digits_mod a hc)) bad))
        h

pub accepted_is_design : WhatIsAcceptedIsADesign
unfolding design_rules
accepted_is_design v k d e =
    let q = accepted_quiet (design_rules v k d) tt tt e in
    let w = and_both (whole v k) (eqb (length d) (b_of v k * k)) (not-false (whole v k && eqb (length d) (b_of v k * k)) q.1.0) in
    let fine : (t : ℕ) → t < b_of v k → row_bad v k d t ≡ false = any_none (row_bad v k d) (b_of v k) q.1.1.0 in (
      limits_of v k q.0,
      w.0,
      record {
        size = eqb-true (length d) (b_of v k * k) w.1;
        groups = λ (t l : ℕ) (h : t < b_of v k). fine_low v k d t l (fine t h);
        ascending = λ (t l : ℕ) (h : t < b_of v k). fine_ascends v k d t l (fine t h);
        pairs =
            λ (a c : ℕ) (h : a < c) (s : c < v).
            let m : a < v = omega arith in
            fine_pair v k d a c (any_none (pair_bad v k d) (v * v) q.1.1.1.0 (a * v + c) (digits_lt m s)) h s;
      },
    )

design_row : (v k : ℕ) (d : List ℕ) (t : ℕ) → Design v k (b_of v k) d → t < b_of v k → BadRow v k d t → ⊥
design_row v k d t D h (inl w) = let s = D.groups t w.0 h w.1 in omega arith
design_row v k d t D h (inr w) = let s = D.ascending t w.0 h w.1 in omega arith

-- every design is accepted
pub design_accepted : ADesignIsAccepted
unfolding design_rules
design_accepted v k d L w D =
    quiet_accepted (design_rules v k d) tt (
      of_limits v k L,
      (
        not_is_false (whole v k && eqb (length d) (b_of v k * k))
            (both_and (whole v k) (eqb (length d) (b_of v k * k)) w (eq-eqb (length d) (b_of v k * k) D.size)),
        (
          none_any (row_bad v k d) (b_of v k)
              (λ (t : ℕ) (h : t < b_of v k).
              never_true (row_bad v k d t) (λ (e : row_bad v k d t ≡ true). design_row v k d t D h (row_words v k d t e))),
          (
            none_any (pair_bad v k d) (v * v)
                (λ (m : ℕ) (h : m < v * v).
                never_true (pair_bad v k d m)
                (λ (e : pair_bad v k d m ≡ true).
                let x = pair_words v k d m (omega arith) e in x.2 (D.pairs (m / v) (m % v) x.0 x.1))),
            tt,
          ),
        ),
      ),
    )
