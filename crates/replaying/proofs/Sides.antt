-- The sets of a tuple's cells, as the passes number them: each is the cell's own, its units are cells of the tuple, each
-- once, and lie apart in the array. Assumes nothing.
use Prim.Native.Nat.{ℕ, ◌-◌, ◌<◌}
use mathlib.Core.Path.{◌≡◌, refl, sym, ap, subst, ◌∙◌}
use mathlib.Core.Bool.{Bool, true, false, cond}
use mathlib.Core.List.{List, [], ◌∷◌}
use native.Mathlib.Omega.{arith}
use lib.Dec.{ltb}
use lib.ListN.{get_or}
use borrow.Author.Tests.{ltb-true}
use Rattle.geometry.specs.declared.Geometry.{Geometry}
use Rattle.geometry.specs.Geometry.{tuples_of, bytes_of}
use Rattle.design.specs.Design.{Laid}
use Rattle.cells.specs.declared.Cell.{Cell}
use Rattle.cells.specs.Cells.{label_of, diagonal_of}
use Rattle.cells.specs.Sets.{outer_member, inner_member}
use Rattle.cells.specs.Ranges.{CellIn}
use Rattle.cells.proofs.Sets.{outer_member_in, inner_member_in, label_in, diagonal_in}
use Rattle.array.specs.Array.{cell_start}
use Rattle.consistent.proofs.Numbers.{starts_length, start_at, cells_inside, cells_spread}
use Rattle.peeling.specs.Peeling.{Side, Step}
use Rattle.peeling.specs.Theorems.{Own}
use Rattle.peeling.proofs.Sides.{Every, every_among}
use Rattle.peeling.proofs.Histories.{Valid, peeled_valid}
use Rattle.peeling.proofs.Same.{Inside}
use Rattle.reaching.specs.Reach.{tuple_cells_of, number_of, cell_numbered, outer_side, inner_side, sides_of, here_of, steps_of}
use Rattle.reaching.specs.Theorems.{CellsNumbered, OwnSides}
use Rattle.reaching.proofs.Numbers.{the_cells_of_a_tuple_are_numbered, a_cell_stands_in_its_sets}
use Rattle.restoring.specs.Restore.{OneOf}
use Rattle.replaying.specs.Replay.{side_starts}

-- a set as cell n of a tuple sees it
pub record SideOf (G : Geometry) (n : ℕ) (s : Side) : Type 0 where
  pub own : Own n s
  pub inside : Inside (tuple_cells_of G) s
  pub once : (p q : ℕ) → p < s.size → q < s.size → s.member p ≡ s.member q → p ≡ q

-- each step restores a cell of the tuple from a set of that cell
abbrev pub OfTuple : Geometry → List Step → Type 0
OfTuple G [] = Unit {0}
OfTuple G (s ∷ ss) = (s.cell < tuple_cells_of G) × SideOf G s.cell s.side × OfTuple G ss

module _ (G : Geometry) (d : List ℕ) (L : Laid G d) (t : ℕ) (ht : t < tuples_of G) where
  abbrev numbered : CellsNumbered G t
  numbered = the_cells_of_a_tuple_are_numbered G d L t ht

  -- what holds of a cell's sets holds of those that the passes try
  pub every_side :
      (P : Side → Type 0) (n : ℕ) → ((cell_numbered G t n).row < G.g - 1 → P (outer_side G (cell_numbered G t n))) →
      P (inner_side G (cell_numbered G t n)) → Every P (sides_of G t n)
  unfolding sides_of
  every_side P n outer inner = go (ltb (cell_numbered G t n).row (G.g - 1)) refl
    where
      x : Cell
      x = cell_numbered G t n

      go :
          (b : Bool) → ltb x.row (G.g - 1) ≡ b →
          Every P (cond b (outer_side G x ∷ inner_side G x ∷ []) (inner_side G x ∷ []))
      go true e = (outer (ltb-true x.row (G.g - 1) e), (inner, tt {0}))
      go false e = (inner, tt {0})

  -- cells of the tuple with one number are one
  number_only :
      (x y : Cell) → CellIn G x → CellIn G y → x.tuple.0 ≡ t → y.tuple.0 ≡ t → number_of G x ≡ number_of G y → x ≡ y
  number_only x y v w e f same = sym (numbered.again x v e) ∙ ap (cell_numbered G t) same ∙ numbered.again y w f

  -- a set by its cells f, which are the tuple's, each once
  side_of :
      (m : ℕ) (s : Side) (f : ℕ → Cell) → Own m s → ((q : ℕ) → s.member q ≡ number_of G (f q)) →
      ((q : ℕ) → q < s.size → CellIn G (f q)) → ((q : ℕ) → (f q).tuple.0 ≡ t) → ((p q : ℕ) → f p ≡ f q → p ≡ q) →
      SideOf G m s
  side_of m s f own is v in_tuple only =
      record {
        own = own;
        inside = λ (q : ℕ) (l : q < s.size). rw (is q) (numbered.low (f q) (v q l));
        once =
            λ (p q : ℕ) (l : p < s.size) (r : q < s.size) (e : s.member p ≡ s.member q).
            only p q (number_only (f p) (f q) (v p l) (v q r) (in_tuple p) (in_tuple q) (sym (is p) ∙ e ∙ is q));
      }

  module _ (n : ℕ) (h : n < tuple_cells_of G) where
    abbrev at : Cell
    at = cell_numbered G t n

    stands : OwnSides G at
    stands = a_cell_stands_in_its_sets G d L at (numbered.there n h)

    pub outer_side_of : at.row < G.g - 1 → SideOf G n (outer_side G at)
    unfolding outer_side cell_numbered
    outer_side_of r =
        side_of n (outer_side G at) (outer_member G t at.row (label_of G at))
        (subst (λ (m : ℕ). Own m (outer_side G at)) (numbered.back n h) stands.outer) (λ l. refl)
        (λ l. outer_member_in G L.sound t at.row (label_of G at) l (label_in G L.sound at (numbered.there n h) r))
        (λ l. refl) (λ l m. ap (λ (x : Cell). x.position))

    pub inner_side_of : SideOf G n (inner_side G at)
    unfolding inner_side cell_numbered
    inner_side_of =
        side_of n (inner_side G at) (inner_member G t at.position (diagonal_of G at))
        (subst (λ (m : ℕ). Own m (inner_side G at)) (numbered.back n h) stands.inner) (λ i. refl)
        (λ i.
        inner_member_in G L.sound t at.position (diagonal_of G at) i
        (diagonal_in G L.sound at (numbered.there n h)))
        (λ i. refl) (λ i m. ap (λ (x : Cell). x.row))

    pub sides_of_lem : Every (SideOf G n) (sides_of G t n)
    sides_of_lem = every_side (SideOf G n) n outer_side_of inner_side_of

  pub valid_of_tuple :
      (start : ℕ → Bool) (ss : List Step) → Valid start (sides_of G t) (tuple_cells_of G) ss → OfTuple G ss
  valid_of_tuple start [] v = tt {0}
  valid_of_tuple start (s ∷ ss) (f, v) = (
    f.below,
    every_among (SideOf G s.cell) (sides_of G t s.cell) s.side (sides_of_lem s.cell f.below) f.among,
    valid_of_tuple start ss v,
  )

  -- those of the passes
  pub steps_of_tuple : (marks : List ℕ) → OfTuple G (steps_of G d marks t)
  unfolding steps_of
  steps_of_tuple marks =
      valid_of_tuple (here_of G d marks t) (steps_of G d marks t)
      (peeled_valid (here_of G d marks t) (sides_of G t) (tuple_cells_of G))

  -- ---- where its units lie
  module _ (m : ℕ) (s : Side) (of : SideOf G m s) where
    -- the own unit of the set is the cell's
    pub own_start : get_or (side_starts G d t s) s.own 0 ≡ cell_start G d (cell_numbered G t m)
    unfolding side_starts
    own_start =
        start_at G d (λ (q : ℕ). cell_numbered G t (s.member q)) s.size s.own of.own.low
        ∙ ap (λ (n : ℕ). cell_start G d (cell_numbered G t n)) of.own.is

    -- its units lie in the array and apart
    pub side_runs : (n : ℕ) → n ≡ bytes_of G → OneOf n (side_starts G d t s) s.own G.u
    unfolding side_starts
    side_runs n long =
        record {
          inside = cells_inside G d f s.size L in_tuple n long;
          spread = cells_spread G d f s.size L in_tuple only;
          below = omega (arith, starts_length G d f s.size, of.own.low);
        }
      where
        f : ℕ → Cell
        f q = cell_numbered G t (s.member q)

        in_tuple : (q : ℕ) → q < s.size → CellIn G (cell_numbered G t (s.member q))
        in_tuple q l = numbered.there (s.member q) (of.inside q l)

        only :
            (p q : ℕ) → p < s.size → q < s.size →
            cell_numbered G t (s.member p) ≡ cell_numbered G t (s.member q) → p ≡ q
        only p q l r e =
            of.once p q l r
            (sym (numbered.back (s.member p) (of.inside p l)) ∙ ap (number_of G) e
            ∙ numbered.back (s.member q) (of.inside q r))
