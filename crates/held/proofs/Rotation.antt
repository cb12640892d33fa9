-- "Row i is the set with i added to each member modulo v, sorted upwards": of an ascending set the members that reach v come
-- first, less v, and then the others. Assumes nothing.
use Prim.Native.Nat.{ℕ, ◌+◌, ◌-◌, ◌*◌, ◌%◌, ◌<◌, ◌≤◌}
use mathlib.Core.Path.{◌≡◌, sym, ap, ap₂, ◌∙◌}
use mathlib.Core.Bool.{true, cond}
use mathlib.Core.List.{List}
use native.Mathlib.Nat.{mod-eq_of_lt, mod-eq-sub-mod}
use native.Mathlib.Omega.{arith}
use native.Mathlib.Decide.{dec_lt}
use lib.Arith.{digits_div, digits_mod}
use lib.ListN.{length, get_or}
use lib.Dec.{ltb, leb, eqb}
use borrow.Author.Tests.{lt-ltb, le-ltb, le-leb, lt-leb, leb-true, leb-false, eq-eqb, eqb-true}
use Rattle.std.specs.Prelude.{Option, Some, None, MatchOption, unwrap_or}
use Rattle.std.specs.List.{AllWithin, HoldsAt}
use Rattle.counting.proofs.Ascending.{ascends_far, ascends_le}
use Rattle.counting.proofs.Laws.{lowest_is, lowest_none, lowest_le, lowest_holds, lowest_before, any_true, any_witness}
use Rattle.held.specs.Held.{shifted, held_group}
use Rattle.held.specs.Developed.{Developable, first_past, developed}
use Rattle.held.proofs.Ascending.{Listed, listed_nth}

-- a number below 2v, modulo v
pub mod_low : (n v : ℕ) → n < v → n % v ≡ n
mod_low n v h = mod-eq_of_lt h

pub mod_high : (n v : ℕ) → v ≤ n → n < v + v → n % v ≡ n - v
mod_high n v h q = mod-eq-sub-mod h ∙ mod-eq_of_lt (omega arith)

-- entry l of row i
pub developed_at : (v : ℕ) (s : List ℕ) (i l : ℕ) → l < length s → developed v s (i * length s + l) ≡ held_group v s i l
developed_at v s i l h = ap₂ (held_group v s) (digits_div i h) (digits_mod i h)

-- a scan finds the first member that reaches v, or none
pub past_is :
    (v : ℕ) (s : List ℕ) (i j : ℕ) → j < length s → v ≤ get_or s j 0 + i →
    ((m : ℕ) → m < j → get_or s m 0 + i < v) → j ≡ first_past v s i
unfolding first_past
past_is v s i j h y before =
    sym
    (lowest_is (λ (j : ℕ). leb v (get_or s j 0 + i)) (length s) j h (le-leb v (get_or s j 0 + i) y)
    (λ m q. lt-leb v (get_or s m 0 + i) (before m q)))

pub past_none :
    (v : ℕ) (s : List ℕ) (i : ℕ) → ((m : ℕ) → m < length s → get_or s m 0 + i < v) → length s ≡ first_past v s i
unfolding first_past
past_none v s i before =
    sym (lowest_none (λ (j : ℕ). leb v (get_or s j 0 + i)) (length s) (λ m q. lt-leb v (get_or s m 0 + i) (before m q)))

-- what a search for the first member of v - i or more finds
pub past_where :
    (v : ℕ) (s : List ℕ) (i : ℕ) (place : Option ℕ)
    → MatchOption place (AllWithin (λ x. x < v - i) s 0 (length s))
    (λ j. (j < length s) × HoldsAt (λ x. v - i ≤ x) s j × AllWithin (λ x. x < v - i) s 0 j)
    → unwrap_or place (length s) ≡ first_past v s i
past_where v s i None h = past_none v s i (λ m q. let y = h m 0 (omega arith) q in omega arith)
past_where v s i (Some j) h =
    past_is v s i j h.0 (let y = h.1 0 in omega arith) (λ m q. let y = h.2 m 0 (omega arith) q in omega arith)

-- how many members reach v
abbrev pub wrapped : (v : ℕ) → List ℕ → (i : ℕ) → ℕ
wrapped v s i = length s - first_past v s i

abbrev pub rotated : (v : ℕ) → List ℕ → (i l : ℕ) → ℕ
rotated v s i l =
    cond (ltb l (wrapped v s i)) (get_or s (first_past v s i + l) 0 + i - v) (get_or s (l - wrapped v s i) 0 + i)

module _ (v : ℕ) (s : List ℕ) (D : Developable v s) (i : ℕ) (h : i < v) where
  pub past_le : first_past v s i ≤ length s
  unfolding first_past
  past_le = lowest_le (λ (j : ℕ). leb v (get_or s j 0 + i)) (length s)

  ascends : (j m : ℕ) → j < m → m < length s → get_or s j 0 < get_or s m 0
  ascends = ascends_far (λ (j : ℕ). get_or s j 0) (length s) D.ascending

  -- the members before it stay below v
  pub before_past : (j : ℕ) → j < first_past v s i → get_or s j 0 + i < v
  unfolding first_past
  before_past j q = leb-false v (get_or s j 0 + i) (lowest_before (λ (j : ℕ). leb v (get_or s j 0 + i)) (length s) j q)

  at_past : first_past v s i < length s → v ≤ get_or s (first_past v s i) 0 + i
  unfolding first_past
  at_past q = leb-true v (get_or s (first_past v s i) 0 + i) (lowest_holds (λ (j : ℕ). leb v (get_or s j 0 + i)) (length s) q)

  -- those from it on reach v
  pub from_past : (j : ℕ) → first_past v s i ≤ j → j < length s → v ≤ get_or s j 0 + i
  from_past j q p =
      let y : v ≤ get_or s (first_past v s i) 0 + i = at_past (omega arith) in
      let z = ascends_le (λ (j : ℕ). get_or s j 0) (length s) D.ascending (first_past v s i) j q p in
      omega arith

  -- the two kinds of members, modulo v
  stays : (j : ℕ) → j < first_past v s i → (get_or s j 0 + i) % v ≡ get_or s j 0 + i
  stays j q = mod_low (get_or s j 0 + i) v (before_past j q)

  wraps : (j : ℕ) → first_past v s i ≤ j → j < length s → (get_or s j 0 + i) % v ≡ get_or s j 0 + i - v
  wraps j q p = let y = D.below j p in mod_high (get_or s j 0 + i) v (from_past j q p) (omega arith)

  rotated_first : (l : ℕ) → l < wrapped v s i → rotated v s i l ≡ get_or s (first_past v s i + l) 0 + i - v
  rotated_first l q = rw (lt-ltb l (wrapped v s i) q)

  rotated_rest : (l : ℕ) → wrapped v s i ≤ l → rotated v s i l ≡ get_or s (l - wrapped v s i) 0 + i
  rotated_rest l q = rw (le-ltb l (wrapped v s i) q)

  below : (l : ℕ) → l < length s → Dec (l < wrapped v s i) → rotated v s i l < v
  below l q (yes y) = let z = D.below (first_past v s i + l) (omega arith) in omega (arith, rotated_first l y)
  below l q (no y) =
      let z = before_past (l - wrapped v s i) (omega (arith, past_le)) in
      omega (arith, rotated_rest l (omega arith))

  climbs :
      (l : ℕ) → l + 1 < length s → Dec (l < wrapped v s i) → Dec (l + 1 < wrapped v s i) →
      rotated v s i l < rotated v s i (l + 1)
  climbs l q (yes y) (yes z) =
      let a = from_past (first_past v s i + l) (omega arith) (omega arith) in
      let b = ascends (first_past v s i + l) (first_past v s i + (l + 1)) (omega arith) (omega arith) in
      omega (arith, rotated_first l y, rotated_first (l + 1) z)
  climbs l q (yes y) (no z) =
      let a = from_past (first_past v s i + l) (omega arith) (omega arith) in
      let b = D.below (first_past v s i + l) (omega arith) in
      omega (arith, rotated_first l y, rotated_rest (l + 1) (omega arith))
  climbs l q (no y) z =
      let b = ascends (l - wrapped v s i) (l + 1 - wrapped v s i) (omega arith) (omega arith) in
      omega (arith, rotated_rest l (omega arith), rotated_rest (l + 1) (omega arith))

  -- a member of the shifted set, by its place in the set
  pub member : (j x : ℕ) → j < length s → (get_or s j 0 + i) % v ≡ x → shifted v s i x ≡ true
  unfolding shifted
  member j x q e =
      any_true (λ (j : ℕ). eqb ((get_or s j 0 + i) % v) x) (length s) j q (eq-eqb ((get_or s j 0 + i) % v) x e)

  pub place : (x : ℕ) → shifted v s i x ≡ true → (j : ℕ) × (j < length s) × ((get_or s j 0 + i) % v ≡ x)
  unfolding shifted
  place x e =
      let w = any_witness (λ (j : ℕ). eqb ((get_or s j 0 + i) % v) x) (length s) e in
      (w.0, w.1, eqb-true ((get_or s w.0 0 + i) % v) x w.2)

  stands : (l : ℕ) → l < length s → Dec (l < wrapped v s i) → shifted v s i (rotated v s i l) ≡ true
  stands l q (yes y) =
      member (first_past v s i + l) (rotated v s i l) (omega arith)
      (wraps (first_past v s i + l) (omega arith) (omega arith) ∙ sym (rotated_first l y))
  stands l q (no y) =
      member (l - wrapped v s i) (rotated v s i l) (omega arith)
      (stays (l - wrapped v s i) (omega (arith, past_le)) ∙ sym (rotated_rest l (omega arith)))

  find :
      (j x : ℕ) → j < length s → (get_or s j 0 + i) % v ≡ x → Dec (j < first_past v s i) →
      (l : ℕ) × (l < length s) × (rotated v s i l ≡ x)
  find j x q e (yes y) =
      let back : j + wrapped v s i - wrapped v s i ≡ j = omega arith in (
        j + wrapped v s i,
        omega (arith, past_le),
        rotated_rest (j + wrapped v s i) (omega arith) ∙ ap (λ (m : ℕ). get_or s m 0 + i) back ∙ sym (stays j y) ∙ e,
      )
  find j x q e (no y) =
      let back : first_past v s i + (j - first_past v s i) ≡ j = omega arith in (
        j - first_past v s i,
        omega arith,
        rotated_first (j - first_past v s i) (omega arith) ∙ ap (λ (m : ℕ). get_or s m 0 + i - v) back
            ∙ sym (wraps j (omega arith) q) ∙ e,
      )

  pub listed : Listed (shifted v s i) v (length s) (rotated v s i)
  listed =
      record {
        below = λ l q. below l q (dec_lt l (wrapped v s i));
        ascends = λ l q. climbs l q (dec_lt l (wrapped v s i)) (dec_lt (l + 1) (wrapped v s i));
        passes = λ l q. stands l q (dec_lt l (wrapped v s i));
        each = λ x e. let w = place x e in find w.0 x w.1 w.2 (dec_lt w.0 (first_past v s i));
      }

  pub group_is : (l : ℕ) → l < length s → held_group v s i l ≡ rotated v s i l
  unfolding held_group
  group_is l q = listed_nth (shifted v s i) v (length s) (rotated v s i) listed l q

  -- the l-th lowest group of row i, by the two kinds of members
  pub group_first : (l : ℕ) → l < wrapped v s i → held_group v s i l ≡ get_or s (first_past v s i + l) 0 + i - v
  group_first l q = group_is l (omega arith) ∙ rotated_first l q

  pub group_rest : (l : ℕ) → wrapped v s i ≤ l → l < length s → held_group v s i l ≡ get_or s (l - wrapped v s i) 0 + i
  group_rest l q p = group_is l p ∙ rotated_rest l q
