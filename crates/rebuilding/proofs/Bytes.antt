-- The bytes that the rebuild leaves: each unit has, at each offset, what the passes over its tuple give its cell.
-- Assumes nothing.
use Prim.Native.Nat.{ℕ, zero, suc, ◌≤◌, ◌<◌}
use mathlib.Core.Path.{◌≡◌, refl, sym, ap, subst, subst⁻¹, ◌∙◌}
use mathlib.Core.List.{List}
use native.Mathlib.Decide.{ℕ_discrete}
use native.Mathlib.Omega.{arith}
use lib.ListN.{get_or, length}
use lib.Seq.{ext_get_or}
use Rattle.geometry.specs.declared.Geometry.{Geometry}
use Rattle.geometry.specs.Geometry.{tuples_of, bytes_of}
use Rattle.design.specs.Design.{Laid}
use Rattle.cells.specs.declared.Cell.{Cell}
use Rattle.cells.specs.Ranges.{CellIn}
use Rattle.consistent.proofs.Units.{InUnit, each_byte_in_a_unit}
use Rattle.peeling.specs.Peeling.{byte_after}
use Rattle.reaching.specs.Reach.{tuple_cells_of, number_of, cell_numbered, steps_of}
use Rattle.reaching.specs.Theorems.{CellsNumbered}
use Rattle.reaching.proofs.Numbers.{the_cells_of_a_tuple_are_numbered}
use Rattle.replaying.proofs.Sides.{steps_of_tuple}
use Rattle.replaying.proofs.Bytes.{byte_at, replayed_length, replayed_other, replayed_at}
use Rattle.rebuilding.specs.Rebuild.{rebuilt_below, rebuilt_of}

-- two arrays that agree on every unit are one
pub units_same :
    (G : Geometry) (d : List ℕ) → Laid G d → (a b : List ℕ) → length a ≡ bytes_of G → length b ≡ bytes_of G →
    ((x : Cell) → CellIn G x → (j : ℕ) → j < G.u → byte_at G d a j x ≡ byte_at G d b j x) → a ≡ b
units_same G d L a b la lb same =
    ext_get_or 0 a b (la ∙ sym lb)
    (λ (n : ℕ) (h : n < length a).
    let w : InUnit G d n = each_byte_in_a_unit G d L n (omega (arith, la)) in
    subst⁻¹ (λ (i : ℕ). get_or a i 0 ≡ get_or b i 0) w.is (same w.held_by w.valid w.offset w.low))

module _ (G : Geometry) (d marks : List ℕ) (L : Laid G d) (a : List ℕ) (long : length a ≡ bytes_of G) where
  numbered : (t : ℕ) → t < tuples_of G → CellsNumbered G t
  numbered = the_cells_of_a_tuple_are_numbered G d L

  below_length : (n : ℕ) → n ≤ tuples_of G → length (rebuilt_below G d marks a n) ≡ bytes_of G
  unfolding rebuilt_below
  below_length zero h = long
  below_length (suc n) h =
      replayed_length G d L n (omega arith) (rebuilt_below G d marks a n) (below_length n (omega arith)) (steps_of G d marks n)
      (steps_of_tuple G d L n (omega arith) marks)

  -- "Tuples go upwards": a tuple n leaves the others' units
  next_other :
      (n : ℕ) → n < tuples_of G → (x : Cell) → CellIn G x → (n ≡ x.tuple.0 → ⊥) → (j : ℕ) → j < G.u →
      byte_at G d (rebuilt_below G d marks a (suc n)) j x ≡ byte_at G d (rebuilt_below G d marks a n) j x
  unfolding rebuilt_below
  next_other n h x =
      replayed_other G d L n h (rebuilt_below G d marks a n) (below_length n (omega arith)) (steps_of G d marks n)
      (steps_of_tuple G d L n h marks) x

  -- those of later tuples are as they were
  below_later :
      (n : ℕ) → n ≤ tuples_of G → (x : Cell) → CellIn G x → n ≤ x.tuple.0 → (j : ℕ) → j < G.u →
      byte_at G d (rebuilt_below G d marks a n) j x ≡ byte_at G d a j x
  unfolding rebuilt_below
  below_later zero h x v q j l = refl
  below_later (suc n) h x v q j l =
      next_other n (omega arith) x v (λ (e : n ≡ x.tuple.0). omega arith) j l
      ∙ below_later n (omega arith) x v (omega arith) j l

  -- b is what the cells of tuple t hold at offset j
  module _ (j : ℕ) (l : j < G.u) (b : ℕ → ℕ) where
    abbrev Holds : ℕ → Type 0
    Holds t = (m : ℕ) → m < tuple_cells_of G → byte_at G d a j (cell_numbered G t m) ≡ b m

    -- after n tuples, cell m of tuple t has what the passes give it
    abbrev Rebuilt : (n t m : ℕ) → Type 0
    Rebuilt n t m =
        byte_at G d (rebuilt_below G d marks a n) j (cell_numbered G t m) ≡ byte_after b (steps_of G d marks t) m

    next_here : (n : ℕ) → n < tuples_of G → Holds n → (m : ℕ) → m < tuple_cells_of G → Rebuilt (suc n) n m
    unfolding rebuilt_below cell_numbered
    next_here n h is =
        replayed_at G d L n h (rebuilt_below G d marks a n) (below_length n (omega arith)) j l b
        (λ m q. below_later n (omega arith) (cell_numbered G n m) ((numbered n h).there m q) (omega arith) j l ∙ is m q)
        (steps_of G d marks n) (steps_of_tuple G d L n h marks)

    below_at : (n : ℕ) → n ≤ tuples_of G → (t : ℕ) → t < n → Holds t → (m : ℕ) → m < tuple_cells_of G → Rebuilt n t m
    unfolding cell_numbered
    below_at zero h t q is m r = absurd (omega arith)
    below_at (suc n) h t q is m r = go (ℕ_discrete t n) (λ (p : t < n). below_at n (omega arith) t p is m r)
      where
        go : Dec (t ≡ n) → (t < n → Rebuilt n t m) → Rebuilt (suc n) t m
        go (yes e) ih =
            subst (λ (s : ℕ). Holds s → Rebuilt (suc n) s m) (sym e) (λ (is : Holds n). next_here n (omega arith) is m r) is
        go (no e) ih =
            next_other n (omega arith) (cell_numbered G t m) ((numbered t (omega arith)).there m r)
            (λ (f : n ≡ t). e (sym f)) j l
            ∙ ih (omega arith)

    pub rebuilt_at :
        (x : Cell) → CellIn G x → Holds x.tuple.0 →
        byte_at G d (rebuilt_of G d marks a) j x ≡ byte_after b (steps_of G d marks x.tuple.0) (number_of G x)
    unfolding rebuilt_of
    rebuilt_at x v is =
        let w = numbered x.tuple.0 v.tuple in
        ap (byte_at G d (rebuilt_below G d marks a (tuples_of G)) j) (sym (w.again x v refl))
        ∙ below_at (tuples_of G) (omega arith) x.tuple.0 v.tuple is (number_of G x) (w.low x v)

  pub rebuilt_length : length (rebuilt_of G d marks a) ≡ bytes_of G
  unfolding rebuilt_of
  rebuilt_length = below_length (tuples_of G) (omega arith)
