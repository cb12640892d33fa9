-- What is known of a design with its geometry is a proposition: two proofs of it are the same, since each pair's row is the
-- only one, and a group stands once in a row that ascends. Assumes nothing.
use Prim.Native.Nat.{ℕ, ◌<◌}
use mathlib.Core.Path.{◌≡◌, PathP, sym, ◌∙◌}
use mathlib.Core.HLevel.{is_prop→PathP}
use mathlib.Core.List.{List}
use native.Mathlib.Nat.{ℕ_set}
use native.Mathlib.Bridge.{le_prop}
use Rattle.std.proofs.Props.{props}
use Rattle.geometry.specs.declared.Geometry.{Geometry}
use Rattle.design.specs.Design.{group_at, InRow, OneRow, Design, Laid}
use Rattle.design.proofs.Rows.{row_once}

module _ (v k b : ℕ) (d : List ℕ) (D : Design v k b d) where
  -- the position of a group in a row is the only one
  InRow_prop : (a t : ℕ) → t < b → IsProp (InRow k d a t)
  InRow_prop a t h x y = λ i. (
    at i,
    is_prop→PathP (λ j. at j < k) (λ j. le_prop) x.1 y.1 i,
    is_prop→PathP (λ j. group_at k d t (at j) ≡ a) (λ j. ℕ_set _ _) x.2 y.2 i,
  )
    where
      at : x.0 ≡ y.0
      at = row_once v k b d D t h x.0 y.0 x.1 y.1 (x.2 ∙ sym y.2)

  -- and so is the row of two groups
  OneRow_prop : (a c : ℕ) → IsProp (OneRow k b d a c)
  OneRow_prop a c x y = λ i. record {
    tuple = row i;
    below = within i;
    left = is_prop→PathP (λ j. InRow k d a (row j)) (λ j. InRow_prop a (row j) (within j)) x.left y.left i;
    right = is_prop→PathP (λ j. InRow k d c (row j)) (λ j. InRow_prop c (row j) (within j)) x.right y.right i;
    only = is_prop→PathP (λ j. (s : ℕ) → s < b → InRow k d a s → InRow k d c s → s ≡ row j) (λ j. Prim.hlevel props) x.only y.only i;
  }
    where
      row : x.tuple ≡ y.tuple
      row = y.only x.tuple x.below x.left x.right

      within : PathP (λ j. row j < b) x.below y.below
      within = is_prop→PathP (λ j. row j < b) (λ j. le_prop) x.below y.below

pub Laid_prop : (G : Geometry) (d : List ℕ) → IsProp (Laid G d)
Laid_prop G d x y =
    let same : IsProp (Laid G d) = Prim.hlevel (props, OneRow_prop G.v G.k _ d x.design) in
    same x y
