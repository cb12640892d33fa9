-- What a scan of the design's list has done so far: how often the group came by before entry i, and that its p-th entry is
-- none of these. Assumes nothing.
use Prim.Native.Nat.{ℕ, ◌+◌, ◌≤◌, ◌<◌}
use mathlib.Core.Path.{◌≡◌, sym, ap, ◌∙◌}
use mathlib.Core.Bool.{Bool, true, false, ◌&&◌}
use mathlib.Core.List.{List}
use native.Mathlib.Omega.{arith}
use lib.Dec.{eqb}
use lib.ListN.{get_or, length}
use borrow.Author.Count.{below_none, below_more}
use borrow.Author.Tests.{eq-eqb, ne_eqb}
use Rattle.std.specs.Prelude.{Some, None}
use Rattle.counting.specs.Counting.{count_below, first_below}
use Rattle.counting.proofs.Bools.{both_and, and_left_false, and_right_false}
use Rattle.counting.proofs.Laws.{first_is, first_none, count_zero, count_more, count_same_more}
use Rattle.design.proofs.Entries.{is_entry}

-- n of the entries before i are the group a
abbrev pub Counted : (d : List ℕ) (a n i : ℕ) → Type 0
Counted d a n i = n ≡ count_below (is_entry d a) i

module _ (d : List ℕ) (a n i : ℕ) (h : Counted d a n i) where
  pub counted_hit : get_or d i 0 ≡ a → Counted d a (n + 1) (i + 1)
  counted_hit e = ap (λ (x : ℕ). x + 1) h ∙ sym (count_more (is_entry d a) i (eq-eqb (get_or d i 0) a e))

  pub counted_miss : (get_or d i 0 ≡ a → ⊥) → Counted d a n (i + 1)
  counted_miss e = h ∙ sym (count_same_more (is_entry d a) i (ne_eqb (get_or d i 0) a e))

-- entry e is the group's p-th
abbrev pub is_part : List ℕ → (a p e : ℕ) → Bool
is_part d a p e = is_entry d a e && eqb (count_below (is_entry d a) e) p

-- and none of the entries before i is the group's p-th
pub record Passed (d : List ℕ) (a p n i : ℕ) : Type 0 where
  pub counted : Counted d a n i
  pub before : (e : ℕ) → e < i → is_part d a p e ≡ false

pub passed_none : (d : List ℕ) (a p : ℕ) → Passed d a p 0 0
passed_none d a p = record { counted = sym (count_zero (is_entry d a)); before = below_none _ }

module _ (d : List ℕ) (a p n i : ℕ) (h : Passed d a p n i) where
  -- entry i is the group's n-th or none of the group's
  is_part_lem : get_or d i 0 ≡ a → n ≡ p → is_part d a p i ≡ true
  is_part_lem e q =
      both_and (is_entry d a i) (eqb (count_below (is_entry d a) i) p) (eq-eqb (get_or d i 0) a e)
      (eq-eqb (count_below (is_entry d a) i) p (sym h.counted ∙ q))

  other_part : (n ≡ p → ⊥) → is_part d a p i ≡ false
  other_part q =
      and_right_false (is_entry d a i) (eqb (count_below (is_entry d a) i) p)
      (ne_eqb (count_below (is_entry d a) i) p (λ e. q (h.counted ∙ e)))

  other_group : (get_or d i 0 ≡ a → ⊥) → is_part d a p i ≡ false
  other_group q = and_left_false (is_entry d a i) (eqb (count_below (is_entry d a) i) p) (ne_eqb (get_or d i 0) a q)

  pub passed_found : i < length d → get_or d i 0 ≡ a → n ≡ p → Some i ≡ first_below (is_part d a p) (length d)
  passed_found l e q = sym (first_is (is_part d a p) (length d) i l (is_part_lem e q) h.before)

  pub passed_hit : get_or d i 0 ≡ a → (n ≡ p → ⊥) → Passed d a p (n + 1) (i + 1)
  passed_hit e q = record { counted = counted_hit d a n i h.counted e; before = below_more _ _ h.before (other_part q) }

  pub passed_miss : (get_or d i 0 ≡ a → ⊥) → Passed d a p n (i + 1)
  passed_miss e = record { counted = counted_miss d a n i h.counted e; before = below_more _ _ h.before (other_group e) }

  pub passed_all : length d ≤ i → None ≡ first_below (is_part d a p) (length d)
  passed_all l = sym (first_none (is_part d a p) (length d) (λ (e : ℕ) (b : e < length d). h.before e (omega arith)))
