-- Counting pairs in the table: one pair, the pairs of a row, all rows. Assumes nothing.
use Prim.Native.Nat.{ℕ, ◌+◌, ◌-◌, ◌*◌, ◌/◌, ◌%◌, ◌≤◌, ◌<◌, min}
use mathlib.Core.Path.{◌≡◌, refl, sym, ap, ap₂, ◌∙◌}
use mathlib.Core.Bool.{Bool, true, false, ◌&&◌}
use mathlib.Core.Logic.{◌⊎◌, inl, inr}
use mathlib.Core.List.{List}
use native.Mathlib.Numerals.{add-one}
use native.Mathlib.Omega.{arith}
use lib.Arith.{digits_lt, digits_div, digits_mod}
use lib.Dec.{eqb}
use lib.ListN.{length, get_or, set, length-set, replicate, length-replicate, get_or-replicate}
use lib.Seq.{get_or-set_same, get_or-set_other}
use borrow.Author.Count.{below_more}
use borrow.Author.Tests.{ne_eqb, eqb-true, eqb-false}
use Rattle.counting.specs.Counting.{one_more_if, any_below}
use Rattle.counting.proofs.Ascending.{ascends_far, ascends_le}
use Rattle.counting.proofs.Bools.{bool_either, and_left_false, and_right_false}
use Rattle.counting.proofs.Laws.{any_true, any_witness, any_none, none_any, count_zero, count_suc}
use Rattle.design.specs.Design.{group_at, names}
use Rattle.checking.specs.Rules.{rows_with}
use Rattle.design.proofs.Rows.{holds}
use Rattle.checking.specs.Table.{pair_of, pair_from, marked_if, Marked, Counted, GoodRow, GoodRows}
use Rattle.checking.proofs.Ascending.{Rising, good_rising, good_below, row_group}
use Rattle.checking.proofs.Chunks.{row_below, IsRow, row_same_bad, row_same_names}

-- ---- one pair

-- two pairs with one number are one pair
pub same_number : (v a c x y : ℕ) → c < v → y < v → a * v + c ≡ x * v + y → (a ≡ x) × (c ≡ y)
same_number v a c x y h q e = (
  sym (digits_div a h) ∙ ap (λ (n : ℕ). n / v) e ∙ digits_div x q,
  sym (digits_mod a h) ∙ ap (λ (n : ℕ). n % v) e ∙ digits_mod x q,
)

-- the pair x<y is counted up
pub mark_one :
    (v : ℕ) (table : List ℕ) (x y n : ℕ) → y < v → x * v + y < length table → n ≡ min (get_or table (x * v + y) 0 + 1) 2
    → Marked v (λ (a c : ℕ). eqb x a && eqb y c) table (set table (x * v + y) n)
mark_one v table x y n h r e =
    record {
      size = length-set table (x * v + y) n;
      each = λ (a c : ℕ) (p : a < c) (q : c < v). go a c q (bool_either (eqb x a)) (bool_either (eqb y c));
    }
  where
    Entry : ℕ → ℕ → Type 0
    Entry a c = get_or (set table (x * v + y) n) (a * v + c) 0 ≡ marked_if (eqb x a && eqb y c) (get_or table (a * v + c) 0)

    other : (a c : ℕ) → (a * v + c ≡ x * v + y → ⊥) → (eqb x a && eqb y c) ≡ false → Entry a c
    other a c w z = rw (z, get_or-set_other table (x * v + y) (a * v + c) n 0 w)

    go : (a c : ℕ) → c < v → (eqb x a ≡ true) ⊎ (eqb x a ≡ false) → (eqb y c ≡ true) ⊎ (eqb y c ≡ false) → Entry a c
    go a c q (inl s) (inl t) =
        rw (s, t, ← eqb-true x a s, ← eqb-true y c t, get_or-set_same table (x * v + y) n 0 r) e
    go a c q (inr s) t =
        other a c (λ (i : a * v + c ≡ x * v + y). eqb-false x a s (sym (same_number v a c x y q h i).0))
        (and_left_false (eqb x a) (eqb y c) s)
    go a c q (inl s) (inr t) =
        other a c (λ (i : a * v + c ≡ x * v + y). eqb-false y c t (sym (same_number v a c x y q h i).1))
        (and_right_false (eqb x a) (eqb y c) t)

-- ---- one after the other

-- of two tests at most one passes, and h passes where one does
abbrev pub Joined : (f g h : Bool) → Type 0
Joined f g h = ((f ≡ false) × (h ≡ g)) ⊎ ((g ≡ false) × (h ≡ f))

joined_marked : (f g h : Bool) (n : ℕ) → Joined f g h → marked_if g (marked_if f n) ≡ marked_if h n
joined_marked f g h n (inl p) = rw (p.0, p.1)
joined_marked f g h n (inr p) = rw (p.0, p.1)

pub joined_left : (e f g h : Bool) → Joined f g h → Joined (e && f) (e && g) (e && h)
joined_left true f g h j = j
joined_left false f g h j = inl (refl, refl)

pub joined_right : (e f g h : Bool) → Joined f g h → Joined (f && e) (g && e) (h && e)
joined_right e f g h (inl p) = inl (and_left_false f e p.0, rw p.1)
joined_right e f g h (inr p) = inr (and_left_false g e p.0, rw p.1)

pub mark_then :
    (v : ℕ) (f g h : ℕ → ℕ → Bool) (old mid new : List ℕ) → Marked v f old mid → Marked v g mid new
    → ((a c : ℕ) → Joined (f a c) (g a c) (h a c)) → Marked v h old new
mark_then v f g h old mid new r s j =
    record {
      size = s.size ∙ r.size;
      each =
          λ (a c : ℕ) (p : a < c) (q : c < v).
          s.each a c p q ∙ ap (marked_if (g a c)) (r.each a c p q) ∙ joined_marked (f a c) (g a c) (h a c) _ (j a c);
    }

pub mark_none : (v : ℕ) (f : ℕ → ℕ → Bool) (table : List ℕ) → ((a c : ℕ) → a < c → f a c ≡ false) → Marked v f table table
mark_none v f table h = record { size = refl; each = λ (a c : ℕ) (p : a < c) (q : c < v). rw (h a c p) }

-- ---- the pairs of a row

-- group z is among the first m of row t
abbrev among : ℕ → List ℕ → ℕ → ℕ → ℕ → Bool
among k d t m z = any_below (holds k d z t) m

-- in a row that ascends a group stands once
among_joined :
    (k : ℕ) (d : List ℕ) (t m z : ℕ) → Rising (group_at k d t) k → m < k
    → Joined (among k d t m z) (eqb (group_at k d t m) z) (among k d t (m + 1) z)
among_joined k d t m z r h = go (bool_either (eqb (group_at k d t m) z)) (bool_either (among k d t m z))
  where
    earlier : eqb (group_at k d t m) z ≡ true → (j : ℕ) → j < m → eqb (group_at k d t j) z ≡ false
    earlier p j q =
        let e : group_at k d t m ≡ z = eqb-true (group_at k d t m) z p in
        let l : group_at k d t j < group_at k d t m = ascends_far (group_at k d t) k r.step j m q h in
        ne_eqb (group_at k d t j) z (λ (i : group_at k d t j ≡ z). omega arith)

    go :
        (eqb (group_at k d t m) z ≡ true) ⊎ (eqb (group_at k d t m) z ≡ false)
        → (among k d t m z ≡ true) ⊎ (among k d t m z ≡ false)
        → Joined (among k d t m z) (eqb (group_at k d t m) z) (among k d t (m + 1) z)
    go (inl p) w =
        inl (
          none_any (holds k d z t) m (earlier p),
          any_true (holds k d z t) (m + 1) m (omega arith) p ∙ sym p,
        )
    go (inr p) (inl w) =
        let x = any_witness (holds k d z t) m w in
        inr (
          p,
          any_true (holds k d z t) (m + 1) x.0 (omega (arith, x.1)) x.2 ∙ sym w,
        )
    go (inr p) (inr w) =
        inr (
          p,
          none_any (holds k d z t) (m + 1)
              (below_more _ _ (any_none (holds k d z t) m w) p)
              ∙ sym w,
        )

-- no group behind position l is among the first l + 1
none_behind :
    (k : ℕ) (d : List ℕ) (t l : ℕ) → Rising (group_at k d t) k → l < k → (a c : ℕ) → a < c
    → (eqb (group_at k d t l) a && among k d t (l + 1) c) ≡ false
none_behind k d t l r h a c p = go (bool_either (eqb (group_at k d t l) a))
  where
    go : (eqb (group_at k d t l) a ≡ true) ⊎ (eqb (group_at k d t l) a ≡ false) → (eqb (group_at k d t l) a && among k d t (l + 1) c) ≡ false
    go (inr s) = and_left_false (eqb (group_at k d t l) a) (among k d t (l + 1) c) s
    go (inl s) =
        and_right_false (eqb (group_at k d t l) a) (among k d t (l + 1) c)
        (none_any (holds k d c t) (l + 1) none)
      where
        none : (j : ℕ) → j < l + 1 → eqb (group_at k d t j) c ≡ false
        none j q =
            let x : group_at k d t l ≡ a = eqb-true (group_at k d t l) a s in
            let y : group_at k d t j ≤ group_at k d t l = ascends_le (group_at k d t) k r.step j l (omega arith) h in
            ne_eqb (group_at k d t j) c (λ (i : group_at k d t j ≡ c). omega arith)

-- the same of a row that is a list of its own: the group at position l, and whether group z is among the first m
abbrev pub group : List ℕ → ℕ → ℕ
group row l = group_at (length row) row 0 l

abbrev seen : List ℕ → ℕ → ℕ → Bool
seen row m z = among (length row) row 0 m z

-- the pairs of the group at position l with those behind it up to position m
pub record MarkedTo (v : ℕ) (row : List ℕ) (l base m : ℕ) (old new : List ℕ) : Type 0 where
  pub good : GoodRow v row old
  pub line : base ≡ group row l * v
  pub low : l < m
  pub most : m ≤ length row
  pub marks : Marked v (λ (a c : ℕ). eqb (group row l) a && seen row m c) old new

module _ (v : ℕ) (row : List ℕ) (l : ℕ) where
  pub marked_to_none :
      (x : ℕ) (table : List ℕ) → GoodRow v row table → l < length row → x ≡ get_or row l 0
      → MarkedTo v row l (x * v) (l + 1) table table
  marked_to_none x table g h e =
      record {
        good = g;
        line = rw (row_group (length row) row l, e);
        low = omega arith;
        most = omega arith;
        marks = mark_none v _ table (none_behind (length row) row 0 l (good_rising v (length row) row 0 g.good) h);
      }

  module _ (base m y : ℕ) (old new : List ℕ) (r : MarkedTo v row l base m old new) (h : m < length row) (e : y ≡ get_or row m 0) where
    is_group : y ≡ group row m
    is_group = e ∙ sym (row_group (length row) row m)

    pub marked_to_within : base + y < length new
    marked_to_within =
        let g = r.good in
        let low : l < m = r.low in
        let line = r.line in
        let size = r.marks.size in
        let room : v * v ≤ length old = g.room in
        let x : group row l < v = good_below v (length row) row 0 l g.good (omega arith) in
        let z : group row m < v = good_below v (length row) row 0 m g.good h in
        omega (arith, digits_lt x z, is_group)

    pub marked_to_next : (n : ℕ) → n ≡ min (get_or new (base + y) 0 + 1) 2 → MarkedTo v row l base (m + 1) old (set new (base + y) n)
    marked_to_next n i =
        record {
          good = r.good;
          line = r.line;
          low = let q : l < m = r.low in omega arith;
          most = omega arith;
          marks = rw (r.line, is_group) (mark_then v _ _ _ old new _ r.marks one joined);
        }
      where
        one : Marked v (λ (a c : ℕ). eqb (group row l) a && eqb (group row m) c) new (set new (group row l * v + group row m) n)
        one =
            mark_one v new (group row l) (group row m) n (good_below v (length row) row 0 m r.good.good h)
            (rw (r.line, is_group) at marked_to_within)
            (rw (r.line, is_group) at i)

        joined : (a c : ℕ) → Joined (eqb (group row l) a && seen row m c) (eqb (group row l) a && eqb (group row m) c) (eqb (group row l) a && seen row (m + 1) c)
        joined a c =
            joined_left (eqb (group row l) a) _ _ _ (among_joined (length row) row 0 m c (good_rising v (length row) row 0 r.good.good) h)

  pub marked_to_all :
      (base m : ℕ) (old new : List ℕ) → MarkedTo v row l base m old new → length row ≤ m
      → Marked v (pair_from (length row) row 0 l) old new
  unfolding names
  marked_to_all base m old new r h =
      let most : m ≤ length row = r.most in
      let e : m ≡ length row = omega arith in
      rw e at r.marks

-- the pairs of the first l groups with those behind them, and then those of the group at position l
row_next :
    (v k : ℕ) (d : List ℕ) (t l : ℕ) (old mid new : List ℕ) → Rising (group_at k d t) k → l < k
    → Marked v (λ (a c : ℕ). among k d t l a && names k d c t) old mid
    → Marked v (pair_from k d t l) mid new
    → Marked v (λ (a c : ℕ). among k d t (l + 1) a && names k d c t) old new
row_next v k d t l old mid new r h p q =
    mark_then v _ _ _ old mid new p q
    (λ (a c : ℕ). joined_right (names k d c t) _ _ _ (among_joined k d t l a r h))

pub record RowTo (v : ℕ) (row : List ℕ) (l : ℕ) (old new : List ℕ) : Type 0 where
  pub good : GoodRow v row old
  pub marks : Marked v (λ (a c : ℕ). seen row l a && names (length row) row c 0) old new

module _ (v : ℕ) (row : List ℕ) where
  pub row_to_next :
      (l : ℕ) (old mid new : List ℕ) → RowTo v row l old mid → l < length row - 1
      → Marked v (pair_from (length row) row 0 l) mid new → RowTo v row (l + 1) old new
  row_to_next l old mid new r h s =
      record {
        good = r.good;
        marks = row_next v (length row) row 0 l old mid new (good_rising v (length row) row 0 r.good.good) (omega arith) r.marks s;
      }

  -- the last group has none behind it
  pub row_to_all :
      (l : ℕ) (old new : List ℕ) → RowTo v row l old new → l ≡ length row - 1 → Marked v (pair_of (length row) row 0) old new
  unfolding names
  row_to_all l old new r h =
      let k_low : 2 ≤ length row = r.good.limits.k_low in
      let rising = good_rising v (length row) row 0 r.good.good in
      let most : l < length row = omega arith in
      let e : l + 1 ≡ length row = omega arith in
      let last : Marked v (λ (a c : ℕ). eqb (group row l) a && seen row (length row) c) new new =
      rw e at (mark_none v _ new (none_behind (length row) row 0 l rising most)) in
      rw e at (row_next v (length row) row 0 l old new new rising most r.marks last)

-- ---- all rows

counted_step : (f : Bool) (n : ℕ) → marked_if f (min n 2) ≡ min (one_more_if f n) 2
counted_step true n = omega arith
counted_step false n = refl

pub counted_next :
    (v k : ℕ) (d : List ℕ) (t : ℕ) (row old new : List ℕ) → IsRow k d t row → Counted v k t d old
    → Marked v (pair_of (length row) row 0) old new → Counted v k (t + 1) d new
unfolding rows_with
counted_next v k d t row old new i r s =
    record {
      room = omega (arith, r.room, s.size);
      each =
          λ (a c : ℕ) (p : a < c) (q : c < v).
          s.each a c p q
          ∙ ap₂ marked_if (pair_same a c) (r.each a c p q)
          ∙ counted_step (pair_of k d t a c) (rows_with k t d a c)
          ∙ sym (rw (add-one t, count_suc (λ (s : ℕ). pair_of k d s a c) t));
    }
  where
    pair_same : (a c : ℕ) → pair_of (length row) row 0 a c ≡ pair_of k d t a c
    pair_same a c = ap₂ ◌&&◌ (row_same_names k d t row i a) (row_same_names k d t row i c)

pub counted_row :
    (v k b : ℕ) (d : List ℕ) (t : ℕ) (row table : List ℕ) → GoodRows v k b d → IsRow k d t row → Counted v k t d table
    → GoodRow v row table
counted_row v k b d t row table g i r =
    let below : t < b = row_below k b t (omega (arith, g.rows.limits)) (omega (arith, g.rows.size, i.within)) in
    record {
      limits = rw i.size g.rows.limits;
      good = row_same_bad k d t row i v ∙ g.good t below;
      room = r.room;
    }

-- nothing is counted yet
pub counted_none : (v k : ℕ) (d : List ℕ) (n : ℕ) → v * v ≤ n → Counted v k 0 d (replicate n 0)
unfolding rows_with
counted_none v k d n h =
    record {
      room = rw length-replicate h;
      each =
          λ (a c : ℕ) (p : a < c) (q : c < v).
          let r : a < v = omega arith in
          let w : a * v + c < n = omega (arith, digits_lt r q) in
          get_or-replicate n (a * v + c) 0 0 w ∙ sym (rw (count_zero (λ (s : ℕ). pair_of k d s a c)));
    }
