-- Which units are among a set's, and what the same bytes, added to two units, do to the set's XOR. Assumes nothing.
use Prim.Native.Nat.{ℕ, ◌+◌, ◌≤◌, ◌<◌}
use mathlib.Core.Path.{◌≡◌, sym, ap, ap₂, ◌∙◌}
use mathlib.Core.Logic.{◌⊎◌, inl, inr}
use mathlib.Core.List.{List, [], ◌∷◌}
use native.Mathlib.Omega.{arith}
use lib.ListN.{get_or, length}
use Rattle.counting.specs.Lists.{list_of}
use Rattle.counting.proofs.Lists.{list_of_length, list_of_at}
use Rattle.geometry.specs.declared.Geometry.{Geometry}
use Rattle.design.specs.Design.{Laid}
use Rattle.numbering.specs.Ranges.{OuterIn, InnerIn}
use Rattle.cells.specs.declared.Cell.{Cell}
use Rattle.cells.specs.Sets.{outer_member, inner_member, InOuter, InInner}
use Rattle.cells.specs.Ranges.{CellIn}
use Rattle.cells.proofs.Sets.{outer_member_in, inner_member_in}
use Rattle.leaves.specs.Bytes.{add_at, add_all, sum_at, Apart, Inside, Spread}
use Rattle.leaves.proofs.Runs.{length_add_at, add_at_comm, further}
use Rattle.leaves.proofs.Sums.{sum_none, sum_two}
use Rattle.array.specs.Array.{cell_start}
use Rattle.array.proofs.Theorems.{no_two_units_share_a_byte}
use Rattle.consistent.specs.Consistent.{outer_starts, inner_starts}

-- p is one of the positions; the u bytes from p lie apart from those from each position
abbrev pub Held : List ℕ → ℕ → Type 0
Held ps p = (t : ℕ) × (t < length ps) × (get_or ps t 0 ≡ p)

abbrev pub Outside : List ℕ → (u p : ℕ) → Type 0
Outside ps u p = (t : ℕ) → t < length ps → Apart p u (get_or ps t 0) u

-- of two positions both or neither
abbrev pub Together : List ℕ → (u p q : ℕ) → Type 0
Together ps u p q = (Held ps p × Held ps q) ⊎ (Outside ps u p × Outside ps u q)

module _ (ps : List ℕ) (o u : ℕ) (e : List ℕ) (i : ℕ) (fits : o + length e ≤ u) (below : i < u) (apart : Spread ps u) where
  -- added to both or to neither, e leaves the XOR
  pair_keeps :
      (a : List ℕ) (p q : ℕ) → Inside (length a) ps u → Together ps u p q →
      sum_at (add_at (add_at a (p + o) e) (q + o) e) ps i ≡ sum_at a ps i
  pair_keeps a p q k (inl (hp, hq)) =
      ap₂ (λ (x y : ℕ). sum_at (add_at (add_at a (x + o) e) (y + o) e) ps i) (sym hp.2) (sym hq.2)
      ∙ sum_two ps o u e i fits below apart a hp.0 hq.0 hp.1 hq.1 k
  pair_keeps a p q k (inr (np, nq)) =
      sum_none q o u e i fits below (add_at a (p + o) e) ps nq ∙ sum_none p o u e i fits below a ps np

  -- four units that pair up
  pub pairs_keep :
      (a : List ℕ) (p q r s : ℕ) → Inside (length a) ps u → Together ps u p q → Together ps u r s →
      sum_at (add_all a (further o (p ∷ q ∷ r ∷ s ∷ [])) e) ps i ≡ sum_at a ps i
  unfolding add_all
  pairs_keep a p q r s k pq rs =
      pair_keeps (add_at (add_at a (p + o) e) (q + o) e) r s
      (rw (length_add_at (add_at a (p + o) e) (q + o) e, length_add_at a (p + o) e) k) rs
      ∙ pair_keeps a p q k pq

  -- the order does not matter: the first with the third, the second with the fourth
  pub crossed_pairs_keep :
      (a : List ℕ) (p q r s : ℕ) → Inside (length a) ps u → Together ps u p r → Together ps u q s →
      sum_at (add_all a (further o (p ∷ q ∷ r ∷ s ∷ [])) e) ps i ≡ sum_at a ps i
  unfolding add_all
  crossed_pairs_keep a p q r s k pr qs =
      ap (λ (x : List ℕ). sum_at (add_at x (s + o) e) ps i) (add_at_comm (add_at a (p + o) e) (q + o) e (r + o) e)
      ∙ pairs_keep a p r q s k pr qs

-- both cells are in a set, or neither is
abbrev pub BothOrNeither : (Cell → Type 0) → (x y : Cell) → Type 0
BothOrNeither In x y = (In x × In y) ⊎ ((In x → ⊥) × (In y → ⊥))

-- the units of n cells
module _ (G : Geometry) (d : List ℕ) (L : Laid G d) (f : ℕ → Cell) (n : ℕ) (cells : (t : ℕ) → t < n → CellIn G (f t)) where
  abbrev starts : List ℕ
  starts = list_of (λ (t : ℕ). cell_start G d (f t)) n

  -- the cell is one of them
  abbrev Among : Cell → Type 0
  Among x = (t : ℕ) × (t < n) × (x ≡ f t)

  start_at : (t : ℕ) → t < n → get_or starts t 0 ≡ cell_start G d (f t)
  start_at t l = list_of_at (λ (s : ℕ). cell_start G d (f s)) n t 0 l

  held : (x : Cell) → Among x → Held starts (cell_start G d x)
  held x m = (m.0, rw (list_of_length _ n) m.1, start_at m.0 m.1 ∙ ap (cell_start G d) (sym m.2))

  outside : (x : Cell) → CellIn G x → (Among x → ⊥) → Outside starts G.u (cell_start G d x)
  outside x h none t l =
      let m : t < n = omega (arith, list_of_length (λ (s : ℕ). cell_start G d (f s)) n) in
      rw (start_at t m) (no_two_units_share_a_byte G d L x (f t) h (cells t m) (λ e. none (t, m, e)))

  together :
      (x y : Cell) → CellIn G x → CellIn G y → BothOrNeither Among x y →
      Together starts G.u (cell_start G d x) (cell_start G d y)
  together x y hx hy (inl (mx, my)) = inl (held x mx, held y my)
  together x y hx hy (inr (nx, ny)) = inr (outside x hx nx, outside y hy ny)

-- a set that holds both cells or neither: so it is with their units
abbrev pub UnitsTogether : Geometry → (d ps : List ℕ) → (x y : Cell) → Type 0
UnitsTogether G d ps x y = Together ps G.u (cell_start G d x) (cell_start G d y)

module _ (G : Geometry) (d : List ℕ) (L : Laid G d) (x y : Cell) (hx : CellIn G x) (hy : CellIn G y) where
  pub outer_together :
      (t i c : ℕ) → OuterIn G t i c → BothOrNeither (InOuter G t i c) x y → UnitsTogether G d (outer_starts G d t i c) x y
  unfolding outer_starts
  outer_together t i c v =
      together G d L (outer_member G t i c) G.k (λ l q. outer_member_in G L.sound t i c l v q) x y hx hy

  pub inner_together :
      (t l j : ℕ) → InnerIn G t l j → BothOrNeither (InInner G t l j) x y → UnitsTogether G d (inner_starts G d t l j) x y
  unfolding inner_starts
  inner_together t l j v =
      together G d L (inner_member G t l j) G.g (λ i q. inner_member_in G L.sound t l j i v q) x y hx hy
