-- A difference set, developed modulo v, is a design: the difference of two groups names the pair of members that they come
-- from, and that pair the row. So the design of each held v is accepted. Assumes nothing.
use Prim.Native.Nat.{ℕ, ◌+◌, ◌-◌, ◌*◌, ◌/◌, ◌%◌, ◌<◌}
use mathlib.Core.Path.{◌≡◌, sym, ap, ap₂, ◌∙◌}
use mathlib.Core.Bool.{Bool, true}
use mathlib.Core.List.{List}
use native.Mathlib.Nat.{add-mod, add-mod-mod, mod-add-mod, add-mod_right, mod-lt, mod-eq_of_lt, div-lt_iff_lt-mul}
use native.Mathlib.Omega.{arith}
use native.Mathlib.Decide.{dec_lt}
use lib.Arith.{digits_lt, digits_div, digits_mod}
use lib.ListN.{length, get_or}
use lib.Dec.{eqb}
use borrow.Author.Tests.{eq-eqb, eqb-true}
use Rattle.counting.specs.Lists.{list_of}
use Rattle.counting.proofs.Laws.{count_one_is}
use Rattle.counting.proofs.Lists.{list_of_length, list_of_at}
use Rattle.geometry.specs.Geometry.{b_of}
use Rattle.design.specs.Design.{group_at, InRow, OneRow, Design}
use Rattle.checking.proofs.Accepted.{design_accepted}
use Rattle.held.specs.Theorems.{HeldDesignsAreAccepted}
use Rattle.held.specs.Held.{set_for, held_group, held_design}
use Rattle.held.specs.Developed.{developed}
use Rattle.held.proofs.Rotation.{mod_low, mod_high, rotated, developed_at, member, place, listed, group_is}
use Rattle.held.proofs.Table.{difference, DifferenceSet, held_difference}

-- ---- modulo v

-- member b is taken to n by the row n - b
mod_left : (v n b : ℕ) → n < v → b < v → (b + (n + (v - b)) % v) % v ≡ n
mod_left v n b h q =
    let e : b + (n + (v - b)) ≡ n + v = omega arith in
    add-mod-mod b (n + (v - b)) v ∙ ap (λ (y : ℕ). y % v) e ∙ add-mod_right n v ∙ mod-eq_of_lt h

-- and a member x of difference c - a from b to c
mod_right : (v a c b x : ℕ) → a < c → c < v → b < v → (x + (v - b)) % v ≡ c - a → (x + (a + (v - b)) % v) % v ≡ c
mod_right v a c b x h hc q e =
    let turn : x + (a + (v - b)) ≡ a + (x + (v - b)) = omega arith in
    let whole : a + (c - a) ≡ c = omega arith in
    add-mod-mod x (a + (v - b)) v
    ∙ ap (λ (y : ℕ). y % v) turn
    ∙ sym (add-mod-mod a (x + (v - b)) v)
    ∙ ap (λ (y : ℕ). (a + y) % v) e
    ∙ ap (λ (y : ℕ). y % v) whole
    ∙ mod-eq_of_lt hc

-- that row is the only one
mod_only : (v b t a : ℕ) → t < v → b < v → (b + t) % v ≡ a → t ≡ (a + (v - b)) % v
mod_only v b t a h q e =
    let turn : t + v ≡ b + t + (v - b) = omega arith in
    sym (mod-eq_of_lt h)
    ∙ sym (add-mod_right t v)
    ∙ ap (λ (y : ℕ). y % v) turn
    ∙ sym (mod-add-mod (b + t) v (v - b))
    ∙ ap (λ (y : ℕ). (y + (v - b)) % v) e

-- two groups of one row differ as their members do
mod_difference :
    (v b x t a c : ℕ) → a < c → c < v → b < v → (b + t) % v ≡ a → (x + t) % v ≡ c → (x + (v - b)) % v ≡ c - a
mod_difference v b x t a c h hc q ea ec =
    go (dec_lt (a + (x + (v - b)) % v) v) (mod-lt (x + (v - b)) (omega arith))
  where
    turn : b + t + (x + (v - b)) ≡ x + t + v
    turn = omega arith

    sum : (a + (x + (v - b)) % v) % v ≡ c
    sum =
        ap (λ (y : ℕ). (y + (x + (v - b)) % v) % v) (sym ea)
        ∙ sym (add-mod (b + t) (x + (v - b)) v)
        ∙ ap (λ (y : ℕ). y % v) turn
        ∙ add-mod_right (x + t) v
        ∙ ec

    go : Dec (a + (x + (v - b)) % v < v) → (x + (v - b)) % v < v → (x + (v - b)) % v ≡ c - a
    go (yes y) z = omega (arith, sym (mod_low (a + (x + (v - b)) % v) v y) ∙ sum)
    go (no y) z = omega (arith, sym (mod_high (a + (x + (v - b)) % v) v (omega arith) (omega arith)) ∙ sum)

-- ---- the set, and its design

-- the one pair of members whose difference is x
record Pair (v : ℕ) (s : List ℕ) (x : ℕ) : Type 0 where
  high : ℕ
  low : ℕ
  high_in : high < length s
  low_in : low < length s
  differ : difference v s high low ≡ x
  only : (p q : ℕ) → p < length s → q < length s → difference v s p q ≡ x → q ≡ low

module _ (v : ℕ) (s : List ℕ) (S : DifferenceSet v s) where
  -- row t holds the groups to which t takes the set's members
  row_at :
      (t l : ℕ) → t < v → l < length s → group_at (length s) (list_of (developed v s) (v * length s)) t l ≡ held_group v s t l
  unfolding group_at
  row_at t l h q = list_of_at (developed v s) (v * length s) (t * length s + l) 0 (digits_lt h q) ∙ developed_at v s t l q

  -- so a row names the groups to which it takes the members, and no others
  row_in :
      (a t j : ℕ) → t < v → j < length s → (get_or s j 0 + t) % v ≡ a →
      InRow (length s) (list_of (developed v s) (v * length s)) a t
  row_in a t j h q e =
      let D = S.developable in
      let w = (listed v s D t h).each a (member v s D t h j a q e) in
      (w.0, w.1, row_at t w.0 h w.1 ∙ group_is v s D t h w.0 w.1 ∙ w.2)

  in_row :
      (a t : ℕ) → t < v → InRow (length s) (list_of (developed v s) (v * length s)) a t →
      (j : ℕ) × (j < length s) × ((get_or s j 0 + t) % v ≡ a)
  in_row a t h w =
      let D = S.developable in
      let e : rotated v s t w.0 ≡ a = sym (group_is v s D t h w.0 w.1) ∙ sym (row_at t w.0 h w.1) ∙ w.2 in
      place v s D t h a (rw e at ((listed v s D t h).passes w.0 w.1))

  the_pair : (x : ℕ) → 0 < x → x < v → Pair v s x
  the_pair x h hx =
      record {
        high = one.0 / length s;
        low = one.0 % length s;
        high_in = (div-lt_iff_lt-mul pos).1 one.1;
        low_in = mod-lt one.0 pos;
        differ = eqb-true (difference v s (one.0 / length s) (one.0 % length s)) x one.2;
        only =
            λ p q hp hq e.
            sym (digits_mod p hq)
            ∙ ap (λ (m : ℕ). m % length s)
            (one.3 (p * length s + q) (digits_lt hp hq)
            (eq-eqb (difference v s ((p * length s + q) / length s) ((p * length s + q) % length s)) x
            (ap₂ (difference v s) (digits_div p hq) (digits_mod p hq) ∙ e)));
      }
    where
      pos : 0 < length s
      pos = omega (arith, S.developable.limits.k_low)

      is : ℕ → Bool
      is m = eqb (difference v s (m / length s) (m % length s)) x

      one :
          (m : ℕ) × (m < length s * length s) × (is m ≡ true)
          × ((i : ℕ) → i < length s * length s → is i ≡ true → i ≡ m)
      one = count_one_is is (length s * length s) (S.once x h hx)

  -- the row that takes the one pair with the groups' difference to the groups
  pair_row :
      (a c : ℕ) → a < c → c < v → Pair v s (c - a) → OneRow (length s) v (list_of (developed v s) (v * length s)) a c
  pair_row a c h hc P =
      record {
        tuple = (a + (v - get_or s P.low 0)) % v;
        below = below;
        left = row_in a _ P.low below P.low_in (mod_left v a (get_or s P.low 0) (omega arith) low_below);
        right =
            row_in c _ P.high below P.high_in
            (mod_right v a c (get_or s P.low 0) (get_or s P.high 0) h hc low_below P.differ);
        only = λ t ht x y. only t ht (in_row a t ht x) (in_row c t ht y);
      }
    where
      low_below : get_or s P.low 0 < v
      low_below = S.developable.below P.low P.low_in

      below : (a + (v - get_or s P.low 0)) % v < v
      below = mod-lt (a + (v - get_or s P.low 0)) (omega arith)

      only :
          (t : ℕ) → t < v → (j : ℕ) × (j < length s) × ((get_or s j 0 + t) % v ≡ a) →
          (j : ℕ) × (j < length s) × ((get_or s j 0 + t) % v ≡ c) → t ≡ (a + (v - get_or s P.low 0)) % v
      only t ht x y =
          let b = S.developable.below x.0 x.1 in
          let e = mod_difference v (get_or s x.0 0) (get_or s y.0 0) t a c h hc b x.2 y.2 in
          mod_only v (get_or s x.0 0) t a ht b x.2
          ∙ ap (λ (j : ℕ). (a + (v - get_or s j 0)) % v) (P.only y.0 x.0 y.1 x.1 e)

  pub developed_design : Design v (length s) v (list_of (developed v s) (v * length s))
  developed_design =
      record {
        size = list_of_length (developed v s) (v * length s);
        groups =
            λ t l h q.
            let D = S.developable in
            rw (row_at t l h q, group_is v s D t h l q) ((listed v s D t h).below l q);
        ascending =
            λ t l h q.
            let D = S.developable in
            let less : l < length s = omega arith in
            rw (row_at t l h less, group_is v s D t h l less, row_at t (l + 1) h q, group_is v s D t h (l + 1) q)
            ((listed v s D t h).ascends l q);
        pairs = λ a c h hc. pair_row a c h hc (the_pair (c - a) (omega arith) (omega arith));
      }

pub held_design_lem : (v : ℕ) → (length (set_for v) ≡ 0 → ⊥) → Design v (length (set_for v)) (b_of v (length (set_for v))) (held_design v)
unfolding held_design
held_design_lem v n = let S = held_difference v n in rw S.rows (developed_design v (set_for v) S)

pub held_accepted : HeldDesignsAreAccepted
held_accepted v n =
    let S = held_difference v n in
    design_accepted v (length (set_for v)) (held_design v) S.developable.limits S.whole_sizes (held_design_lem v n)
