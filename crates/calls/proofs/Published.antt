-- The map and the way back are those of the published layout: 01's formulas, from the layout's theorems. Assumes nothing.
use Prim.Native.Nat.{ℕ, ◌-◌, ◌<◌}
use mathlib.Core.Path.{◌≡◌, refl, sym, ap, ap₂, subst, subst⁻¹, ◌∙◌}
use mathlib.Core.List.{List}
use native.Mathlib.Omega.{arith}
use Rattle.geometry.specs.declared.Geometry.{Geometry}
use Rattle.geometry.specs.declared.UserUnit.{UserUnit}
use Rattle.geometry.specs.Geometry.{Sound, user_units_of}
use Rattle.sizes.proofs.Reasons.{accepted_is_laid}
use Rattle.region.specs.Columns.{label_column}
use Rattle.numbering.specs.Positions.{parity_position}
use Rattle.numbering.specs.Numbering.{user_number, user_tuple, user_row, user_region, user_column}
use Rattle.numbering.specs.Ranges.{OuterIn, UserIn}
use Rattle.numbering.proofs.Theorems.{user_units_are_numbered}
use Rattle.cells.specs.declared.Cell.{Cell}
use Rattle.cells.specs.declared.Role.{Role}
use Rattle.cells.specs.declared.Role.TheVariants.{User, Outer, Inner}
use Rattle.cells.specs.Cells.{cell, diagonal_of}
use Rattle.cells.specs.Sets.{outer_member, outer_parity}
use Rattle.cells.specs.Ranges.{RoleIn}
use Rattle.cells.specs.Roles.{user_cell, user_outer, inner_of, outer, inner, cell_of}
use Rattle.cells.proofs.Sets.{outer_member_in, diagonal_in}
use Rattle.cells.proofs.Theorems.{the_cell_of_a_user_unit, the_cell_of_an_outer_parity, the_cell_of_an_inner_parity}
use Rattle.cells.proofs.Theorems.{the_members_of_an_inner_set, a_unit_is_in_the_inner_set_of_its_diagonal}
use Rattle.layout.specs.declared.Place.{Place}
use Rattle.layout.specs.declared.Four.{Four}
use Rattle.layout.specs.Ranges.{PlaceIn}
use Rattle.layout.specs.Places.{place, place_of, four_of, role_at}
use Rattle.layout.proofs.Theorems.{the_place_of_a_cell, the_way_back_is_the_inverse}
use Rattle.address.proofs.Answers.{role_accepted}
use Rattle.address.proofs.Back.{mapped, map_and_back}
use Rattle.calls.specs.Published.{unit_of, column_at, Diagonal, PublishedPlaces, PublishedRole, Answers}
use Rattle.calls.specs.Theorems

-- the cell of label (i,c) at position l of tuple t, and its diagonal
abbrev label_cell : Geometry → (t l i c : ℕ) → Cell
label_cell G t l i c = cell t l i (column_at G l i c)

abbrev diagonal : Geometry → (t l i c : ℕ) → ℕ
diagonal G t l i c = diagonal_of G (label_cell G t l i c)

-- it lies on that diagonal
on_diagonal :
    (G : Geometry) → Sound G → (t l i c : ℕ) → OuterIn G t i c → l < G.k →
    Diagonal G i (column_at G l i c) (diagonal G t l i c)
unfolding label_column
on_diagonal G s t l i c h q =
    let x = outer_member_in G s t i c l h q in
    let y = diagonal_in G s (outer_member G t i c l) x in
    let z = a_unit_is_in_the_inner_set_of_its_diagonal G s (outer_member G t i c l) x in
    record {
      low = y.diagonal;
      turned = (the_members_of_an_inner_set G s t l _ y (outer_member G t i c l) z).turned;
    }

-- ---- the cells of a user unit and of its label's parity
module _ (G : Geometry) (s : Sound G) (t l i c : ℕ) (h : UserIn G t l i c) where
  user_at : user_cell G (unit_of G t l i c).0 ≡ label_cell G t l i c
  unfolding cell_of
  user_at = the_cell_of_a_user_unit G t l i c h

  tuple_at : user_tuple G (unit_of G t l i c).0 ≡ t
  unfolding user_number
  tuple_at = (user_units_are_numbered G s).tuple t l i c h

  outer_of_number : user_outer G (user_number G t l i c) ≡ outer_parity G t i c
  unfolding user_outer
  outer_of_number =
      let n = user_units_are_numbered G s in rw (n.tuple t l i c h, n.row t l i c h, n.column t l i c h)

  outer_at : user_outer G (unit_of G t l i c).0 ≡ label_cell G t (G.k - 1) i c
  unfolding user_number parity_position label_column
  outer_at = outer_of_number

  -- the outer parity's role
  outer_role :
      outer (user_tuple G (unit_of G t l i c).0) (user_row G (unit_of G t l i c).0) (user_column G (unit_of G t l i c).0)
      ≡ outer t i c
  unfolding user_number
  outer_role =
      let n = user_units_are_numbered G s in
      ap₂ (λ x (y : ℕ × ℕ). outer x y.0 y.1) (n.tuple t l i c h)
      (ap₂ (λ (x y : ℕ). (x, y)) (n.row t l i c h) (n.column t l i c h))

  user_diagonal : Diagonal G i (column_at G l i c) (diagonal G t l i c)
  user_diagonal = on_diagonal G s t l i c h.label (omega (arith, h.region))

  outer_diagonal : Diagonal G i (column_at G (G.k - 1) i c) (diagonal G t (G.k - 1) i c)
  outer_diagonal = on_diagonal G s t (G.k - 1) i c h.label (omega (arith, h.region))

  pub published_places : (d : List ℕ) → PublishedPlaces G d t l i c (four_of G d (unit_of G t l i c).0)
  unfolding four_of inner_of
  published_places d =
      record {
        user = ap (place_of G d) user_at ∙ the_place_of_a_cell G d t l i _ _ refl;
        outer = ap (place_of G d) outer_at ∙ the_place_of_a_cell G d t (G.k - 1) i _ _ refl;
        inner = (
          diagonal G t l i c,
          user_diagonal,
          ap (λ (x : Cell). place_of G d (inner_of G x)) user_at ∙ the_place_of_a_cell G d t l (G.g - 1) _ _ refl,
        );
        both = (
          diagonal G t (G.k - 1) i c,
          outer_diagonal,
          ap (λ (x : Cell). place_of G d (inner_of G x)) outer_at ∙ the_place_of_a_cell G d t (G.k - 1) (G.g - 1) _ _ refl,
        );
      }

pub places_of_the_map : Theorems.TheMapGivesThePublishedPlaces
places_of_the_map κs G design t l i c f h p =
    let m = mapped κs G design (unit_of G t l i c) f p in
    subst⁻¹ (λ (z : Four). PublishedPlaces G design.now t l i c z) m.2
    (published_places G (accepted_is_laid G design.now m.0).sound t l i c h design.now)

abbrev number : ℕ → UserUnit
number n = record { 0 = n }

-- a user unit's number has its digits
pub numbered :
    (G : Geometry) → Sound G → (n : UserUnit) → n.0 < user_units_of G →
    (t : ℕ) × (l : ℕ) × (i : ℕ) × (c : ℕ) × UserIn G t l i c × (n ≡ unit_of G t l i c)
unfolding user_number
numbered G s n h =
    let w = user_units_are_numbered G s in (
      user_tuple G n.0,
      user_region G n.0,
      user_row G n.0,
      user_column G n.0,
      w.digits n.0 h,
      ap number (sym (w.number n.0)),
    )

pub label_of_a_mapped_unit : Theorems.EachMappedUnitHasItsLabel
label_of_a_mapped_unit κs G design n f p =
    let m = mapped κs G design n f p in numbered G (accepted_is_laid G design.now m.0).sound n m.1

-- ---- the way back
role_published :
    (G : Geometry) (d : List ℕ) → Sound G → (p : Place) (ρ : Role) → RoleIn G ρ → place_of G d (cell_of G ρ) ≡ p →
    PublishedRole G d p ρ
role_published G d s p (User n) h e =
    let w = numbered G s n h in (
      w.0,
      w.1,
      w.2,
      w.3,
      w.4,
      w.5,
      sym e ∙ ap (λ (m : UserUnit). place_of G d (cell_of G (User m))) w.5
          ∙ ap (place_of G d) (the_cell_of_a_user_unit G w.0 w.1 w.2 w.3 w.4)
          ∙ the_place_of_a_cell G d w.0 w.1 w.2 _ _ refl,
    )
role_published G d s p (Outer t i c) h e = (
  h,
  sym e ∙ ap (place_of G d) (the_cell_of_an_outer_parity G t.0 i c)
      ∙ the_place_of_a_cell G d t.0 (G.k - 1) i _ _ refl,
)
role_published G d s p (Inner t l j) h e = (
  h,
  sym e ∙ ap (place_of G d) (the_cell_of_an_inner_parity G t.0 l j)
      ∙ the_place_of_a_cell G d t.0 l (G.g - 1) _ _ refl,
)

pub roles_of_the_way_back : Theorems.TheWayBackGivesThePublishedRoles
roles_of_the_way_back κs G design x y ρ p =
    let m = role_accepted G design.now x.0 y.0 (role_at G design.now x.0 y.0) ρ (sym p) in
    let L = accepted_is_laid G design.now m.0 in
    let w = the_way_back_is_the_inverse G design.now L in
    let h : PlaceIn G (place x.0 y.0) = record { disk = m.1; unit = m.2 } in
    role_published G design.now L.sound (place x.0 y.0) ρ
    (subst⁻¹ (RoleIn G) m.3 (w.role (place x.0 y.0) h))
    (ap (λ (z : Role). place_of G design.now (cell_of G z)) m.3 ∙ w.again (place x.0 y.0) h)

pub back_of_the_map : Theorems.TheWayBackNamesWhatTheMapNames
unfolding parity_position
back_of_the_map κs G design t l i c f h p =
    let s = (accepted_is_laid G design.now (mapped κs G design (unit_of G t l i c) f p).0).sound in
    let b = map_and_back κs G design (unit_of G t l i c) f p in
    record {
      user = b.of_user;
      outer = subst (Answers κs G design f.outer) (outer_role G s t l i c h) b.of_outer;
      inner = (
        diagonal G t l i c,
        user_diagonal G s t l i c h,
        subst (Answers κs G design f.inner)
            (ap₂ (λ a (x : Cell). inner a x.position (diagonal_of G x)) (tuple_at G s t l i c h) (user_at G s t l i c h))
            b.of_inner,
      );
      both = (
        diagonal G t (G.k - 1) i c,
        outer_diagonal G s t l i c h,
        subst (Answers κs G design f.both)
            (ap₂ (λ a (x : Cell). inner a (G.k - 1) (diagonal_of G x)) (tuple_at G s t l i c h) (outer_at G s t l i c h))
            b.of_both,
      );
    }
