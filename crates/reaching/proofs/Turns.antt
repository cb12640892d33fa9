-- What visits and passes keep, and that the passes end: each one but the last leaves fewer cells missing. Assumes nothing.
use Prim.Native.Nat.{ℕ, zero, suc, ◌+◌, ◌*◌, ◌≤◌, ◌<◌}
use mathlib.Core.Path.{◌≡◌, ◌∙◌, ap, sym, refl}
use mathlib.Core.Bool.{Bool, true, false, not}
use mathlib.Core.Logic.{◌⊎◌, inl, inr}
use mathlib.Core.List.{List}
use native.Mathlib.Numerals.{add-one}
use native.Mathlib.Omega.{arith}
use lib.Dec.{eqb, ltb}
use lib.ListN.{length, set, length-set}
use lib.Seq.{get_or-set_same, get_or-set_other}
use borrow.Author.Tests.{eq-eqb, ne_eqb, ltb-true, ltb-false}
use Rattle.counting.specs.Counting.{one_more_if, count_below}
use Rattle.counting.proofs.Bools.{bool_either}
use Rattle.counting.proofs.Laws.{count_suc, count_same, count_le}
use Rattle.std.specs.Prelude.{Option, Some, None}
use Rattle.geometry.specs.declared.Geometry.{Geometry}
use Rattle.reaching.specs.Reach.{tuple_cells_of}
use Rattle.reaching.specs.declared.Kind.{Kind}
use Rattle.reaching.specs.State.{State, seen, missing, Room, kind_of, kind_number, restored_by, restored_if, stay, visited, swept, passed}

-- ---- one more present is one less missing

one_more : (b : Bool) (x y : ℕ) → x ≡ y + 1 → one_more_if b x ≡ one_more_if b y + 1
one_more true x y e = omega arith
one_more false x y e = e

pub count_less :
    (f h : ℕ → Bool) (x n : ℕ) → x < n → f x ≡ true → h x ≡ false → ((i : ℕ) → (i ≡ x → ⊥) → h i ≡ f i)
    → count_below f n ≡ count_below h n + 1
count_less f h x zero l p q e = absurd (omega arith)
count_less f h x (suc n) l p q e = go (bool_either (ltb x n)) (λ (k : x < n). count_less f h x n k p q e)
  where
    go : (ltb x n ≡ true) ⊎ (ltb x n ≡ false) → (x < n → count_below f n ≡ count_below h n + 1) → count_below f (suc n) ≡ count_below h (suc n) + 1
    go (inl b) ih =
        let k : x < n = ltb-true x n b in
        let same : h n ≡ f n = e n (λ (w : n ≡ x). omega arith) in
        rw (count_suc f n, count_suc h n, same) (one_more (f n) (count_below f n) (count_below h n) (ih k))
    go (inr b) ih =
        let k : n ≤ x = ltb-false x n b in
        let w : x ≡ n = omega arith in
        let same : count_below h n ≡ count_below f n = count_same h f n (λ (i : ℕ) (z : i < n). e i (λ (y : i ≡ x). omega arith)) in
        let fn : f n ≡ true = rw w at p in
        let hn : h n ≡ false = rw w at q in
        rw (count_suc f n, count_suc h n, fn, hn) (omega arith)

pub missing_set : (flags : List Bool) (n : ℕ) → n < length flags → seen flags n ≡ false → missing flags ≡ missing (set flags n true) + 1
missing_set flags n h p =
    rw (length-set flags n true)
    (count_less (λ (i : ℕ). not (seen flags i)) (λ (i : ℕ). not (seen (set flags n true) i)) n (length flags) h (ap not p)
    (ap not (get_or-set_same flags n true false h))
    (λ (i : ℕ) (w : i ≡ n → ⊥). ap not (get_or-set_other flags n i true false w)))

-- ---- what a visit and a pass keep

pub record Kept (s r : State) : Type 0 where
  pub flags : length r.flags ≡ length s.flags
  pub log : length r.log ≡ length s.log
  pub sum : r.count + missing r.flags ≡ s.count + missing s.flags
  pub grown : (r ≡ s) ⊎ (s.count < r.count)

kept_same : (s : State) → Kept s s
kept_same s = record { flags = refl; log = refl; sum = refl; grown = inl refl }

kept_then : (s r q : State) → Kept s r → Kept r q → Kept s q
kept_then s r q a b =
    record {
      flags = b.flags ∙ a.flags;
      log = b.log ∙ a.log;
      sum = b.sum ∙ a.sum;
      grown = go a.grown b.grown;
    }
  where
    go : (r ≡ s) ⊎ (s.count < r.count) → (q ≡ r) ⊎ (r.count < q.count) → (q ≡ s) ⊎ (s.count < q.count)
    go (inl e) (inl d) = inl (d ∙ e)
    go (inl e) (inr h) = let w : r.count ≡ s.count = ap (λ (x : State). x.count) e in inr (omega arith)
    go (inr h) (inl e) = let w : q.count ≡ r.count = ap (λ (x : State). x.count) e in inr (omega arith)
    go (inr h) (inr k) = inr (omega arith)

pub kept_restored : (s : State) (n : ℕ) (kind : Kind) → n < length s.flags → seen s.flags n ≡ false → Kept s (restored_by s n kind)
unfolding restored_by
kept_restored s n kind h p =
    let m : missing s.flags ≡ missing (set s.flags n true) + 1 = missing_set s.flags n h p in
    record {
      flags = length-set s.flags n true;
      log = length-set s.log s.count (2 * n + kind_number kind);
      sum = omega arith;
      grown = inr (omega arith);
    }

pub visited_kept : (G : Geometry) (t n : ℕ) (s : State) → n < length s.flags → Kept s (visited G t n s)
unfolding visited
visited_kept G t n s h = go (seen s.flags n) refl (kind_of G t (seen s.flags) n)
  where
    go : (a : Bool) → seen s.flags n ≡ a → (found : Option Kind) → Kept s (stay a s (restored_if s n found))
    go true p found = kept_same s
    go false p None = kept_same s
    go false p (Some kind) = kept_restored s n kind h p

pub swept_kept : (G : Geometry) (t n : ℕ) (s : State) → n ≤ length s.flags → Kept s (swept G t n s)
unfolding swept
swept_kept G t zero s h = kept_same s
swept_kept G t (suc n) s h =
    let k : Kept s (swept G t n s) = swept_kept G t n s (omega arith) in
    kept_then s (swept G t n s) (visited G t n (swept G t n s)) k (visited_kept G t n (swept G t n s) (omega (arith, k.flags)))

pub room_kept : (G : Geometry) (s r : State) → Kept s r → Room G s → Room G r
room_kept G s r k m = record { flags = k.flags ∙ m.flags; log = omega (arith, k.log, k.sum, m.log) }

-- ---- the turns of a pass

-- after n visits
pub record Sweeping (G : Geometry) (t : ℕ) (s₀ s : State) (n : ℕ) : Type 0 where
  pub room : Room G s
  pub is : s ≡ swept G t n s₀

pub sweeping_none : (G : Geometry) (t : ℕ) (s : State) → Room G s → Sweeping G t s s 0
unfolding swept
sweeping_none G t s m = record { room = m; is = refl }

module _ (G : Geometry) (t : ℕ) (s₀ s : State) (n : ℕ) (w : Sweeping G t s₀ s n) where
  pub sweeping_more : (r : State) → n < tuple_cells_of G → r ≡ visited G t n s → Sweeping G t s₀ r (n + 1)
  unfolding swept
  sweeping_more r h e =
      record {
        room = rw e (room_kept G s (visited G t n s) (visited_kept G t n s (omega (arith, w.room.flags))) w.room);
        is = rw (add-one n, ← w.is) e;
      }

-- ---- the turns of the passes

module _ (G : Geometry) (t : ℕ) where
  done : (fuel : ℕ) (s : State) → (swept G t (tuple_cells_of G) s).count ≡ s.count → passed G t fuel s ≡ s
  unfolding passed
  done zero s e = refl
  done (suc fuel) s e = rw (eq-eqb (swept G t (tuple_cells_of G) s).count s.count e)

  more :
      (fuel : ℕ) (s : State) → ((swept G t (tuple_cells_of G) s).count ≡ s.count → ⊥)
      → passed G t (suc fuel) s ≡ passed G t fuel (swept G t (tuple_cells_of G) s)
  unfolding passed
  more fuel s e = rw (ne_eqb (swept G t (tuple_cells_of G) s).count s.count e)

pub passed_kept : (G : Geometry) (t fuel : ℕ) (s : State) → tuple_cells_of G ≤ length s.flags → Kept s (passed G t fuel s)
unfolding passed
passed_kept G t zero s h = kept_same s
passed_kept G t (suc fuel) s h =
    go (eqb (swept G t (tuple_cells_of G) s).count s.count)
    (kept_then s (swept G t (tuple_cells_of G) s) (passed G t fuel (swept G t (tuple_cells_of G) s)) k
    (passed_kept G t fuel (swept G t (tuple_cells_of G) s) (omega (arith, k.flags))))
  where
    k : Kept s (swept G t (tuple_cells_of G) s)
    k = swept_kept G t (tuple_cells_of G) s h

    go : (b : Bool) → Kept s (passed G t fuel (swept G t (tuple_cells_of G) s)) → Kept s (stay b s (passed G t fuel (swept G t (tuple_cells_of G) s)))
    go true w = kept_same s
    go false w = w

-- what is left to do from s is what was to do from s₀
pub record Going (G : Geometry) (t : ℕ) (s₀ s : State) : Type 0 where
  pub fuel : ℕ
  pub enough : missing s.flags ≤ fuel
  pub same : passed G t fuel s ≡ passed G t (tuple_cells_of G) s₀
  pub room : Room G s

pub going_start : (G : Geometry) (t : ℕ) (s : State) → Room G s → Going G t s s
going_start G t s m =
    let l : missing s.flags ≤ length s.flags = count_le (λ (n : ℕ). not (seen s.flags n)) (length s.flags) in
    record { fuel = tuple_cells_of G; enough = omega (arith, m.flags); same = refl; room = m }

module _ (G : Geometry) (t : ℕ) (s₀ s r : State) (g : Going G t s₀ s) (e : r ≡ swept G t (tuple_cells_of G) s) where
  kept : Kept s r
  kept = rw e (swept_kept G t (tuple_cells_of G) s (omega (arith, g.room.flags)))

  -- fewer are missing, or nothing was restored
  pub going_less : (r.count ≡ s.count → ⊥) → missing r.flags < missing s.flags
  going_less d = go kept.grown
    where
      go : (r ≡ s) ⊎ (s.count < r.count) → missing r.flags < missing s.flags
      go (inl w) = absurd (d (ap (λ (x : State). x.count) w))
      go (inr h) = omega (arith, kept.sum)

  pub going_again : (r.count ≡ s.count → ⊥) → Going G t s₀ r
  going_again d = go g.fuel g.enough g.same
    where
      less : missing r.flags < missing s.flags
      less = going_less d

      go : (f : ℕ) → missing s.flags ≤ f → passed G t f s ≡ passed G t (tuple_cells_of G) s₀ → Going G t s₀ r
      go zero h w = absurd (omega (arith, less))
      go (suc f) h w =
          record {
            fuel = f;
            enough = omega (arith, less);
            same = ap (passed G t f) e ∙ sym (more G t f s (λ (y : (swept G t (tuple_cells_of G) s).count ≡ s.count). d (rw e y))) ∙ w;
            room = room_kept G s r kept g.room;
          }

  pub going_end : r.count ≡ s.count → r ≡ passed G t (tuple_cells_of G) s₀
  going_end d = go kept.grown
    where
      go : (r ≡ s) ⊎ (s.count < r.count) → r ≡ passed G t (tuple_cells_of G) s₀
      go (inl w) = w ∙ sym (done G t g.fuel s (rw e at d)) ∙ g.same
      go (inr h) = absurd (omega arith)
