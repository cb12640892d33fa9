-- A cell and its role are inverse: 01, "user unit n; outer parity of (t,i,c); or inner parity of (t,l,j)".
use Prim.Native.Nat.{ℕ, ◌-◌, ◌<◌}
use mathlib.Core.Path.{◌≡◌, ◌∙◌, refl}
use mathlib.Core.Bool.{Bool, true, false}
use native.Mathlib.Omega.{arith}
use lib.Dec.{eqb}
use borrow.Author.Tests.{eq-eqb, ne_eqb, eqb-true, eqb-false}
use Rattle.geometry.specs.declared.Geometry.{Geometry}
use Rattle.geometry.specs.Geometry.{Sound, user_units_of}
use Rattle.region.proofs.Turns.{parity_column_lem, parity_diagonal}
use Rattle.numbering.specs.Positions.{parity_position, data_position, data_number}
use Rattle.numbering.specs.Ranges.{OuterIn, InnerIn, UserIn}
use Rattle.numbering.specs.Numbering.{user_number, user_column, user_row, user_region, user_tuple}
use Rattle.numbering.proofs.Positions.{parity_position_lt, data_position_lt, data_position_other, data_number_lt}
use Rattle.numbering.proofs.Positions.{number_of_position, position_of_number}
use Rattle.numbering.proofs.Numbering.{number_lt, column_of_number, row_of_number, region_of_number, tuple_of_number}
use Rattle.numbering.proofs.Numbering.{number_of_digits, digits_in}
use Rattle.cells.specs.declared.Cell.{Cell}
use Rattle.cells.specs.declared.Role.{Role}
use Rattle.cells.specs.declared.Role.TheVariants.{User, Outer, Inner}
use Rattle.cells.specs.Cells.{label_of, diagonal_of}
use Rattle.cells.specs.Sets.{outer_member, outer_parity, inner_parity}
use Rattle.cells.specs.Ranges.{CellIn, RoleIn}
use Rattle.cells.specs.Roles.{user_cell, user, outer, inner, role_of, cell_of}
use Rattle.cells.proofs.Sets.{outer_member_in, member_label, label_column_lem, label_in, diagonal_column_lem, diagonal_in}

-- the cell is in row g-1, or at the parity's position
abbrev pub LastRow : Geometry → Cell → Type 0
LastRow G x = x.row ≡ G.g - 1

abbrev pub AtParity : Geometry → Cell → Type 0
AtParity G x = x.position ≡ parity_position G x.tuple.0

-- the data region in which a cell lies that is neither
abbrev pub data_region : Geometry → Cell → ℕ
data_region G x = data_number G x.tuple.0 x.position

module _ (G : Geometry) (x : Cell) where
  -- the role of a cell, by cases
  pub role_inner : LastRow G x → role_of G x ≡ inner x.tuple.0 x.position (diagonal_of G x)
  unfolding role_of
  role_inner e = rw (eq-eqb x.row (G.g - 1) e)

  pub role_outer : ¬ LastRow G x → AtParity G x → role_of G x ≡ outer x.tuple.0 x.row (label_of G x)
  unfolding role_of
  role_outer n e =
      rw (ne_eqb x.row (G.g - 1) n, eq-eqb x.position (parity_position G x.tuple.0) e)

  pub role_user :
      ¬ LastRow G x → ¬ AtParity G x →
      role_of G x ≡ user (user_number G x.tuple.0 (data_region G x) x.row (label_of G x))
  unfolding role_of
  role_user n m =
      rw (ne_eqb x.row (G.g - 1) n, ne_eqb x.position (parity_position G x.tuple.0) m)

-- the three cases
data Kind (G : Geometry) (x : Cell) : Type 0 where
  at_inner : LastRow G x → Kind G x
  at_outer : ¬ LastRow G x → AtParity G x → Kind G x
  at_user : ¬ LastRow G x → ¬ AtParity G x → Kind G x

kind : (G : Geometry) (x : Cell) → Kind G x
kind G x = go (eqb x.row (G.g - 1)) refl (eqb x.position (parity_position G x.tuple.0)) refl
  where
    go :
        (a : Bool) → eqb x.row (G.g - 1) ≡ a →
        (b : Bool) → eqb x.position (parity_position G x.tuple.0) ≡ b → Kind G x
    go true p b q = at_inner (eqb-true _ _ p)
    go false p true q = at_outer (eqb-false _ _ p) (eqb-true _ _ q)
    go false p false q = at_user (eqb-false _ _ p) (eqb-false _ _ q)

-- the cell of the user unit with given digits
pub user_cell_lem :
    (G : Geometry) (t m i c : ℕ) → UserIn G t m i c →
    user_cell G (user_number G t m i c) ≡ outer_member G t i c (data_position G t m)
unfolding user_cell
user_cell_lem G t m i c h =
    rw
    (tuple_of_number G t m i c h, region_of_number G t m i c h, row_of_number G t m i c h, column_of_number G t m i c h)

module _ (G : Geometry) (s : Sound G) where
  parity_lt : (t : ℕ) → parity_position G t < G.k
  parity_lt t = parity_position_lt G t (omega arith)

  -- a role's cell is a cell of the geometry
  pub user_cell_in : (n : ℕ) → n < user_units_of G → CellIn G (user_cell G n)
  unfolding user_cell
  user_cell_in n h =
      let u : UserIn G (user_tuple G n) (user_region G n) (user_row G n) (user_column G n) = digits_in G n s h in
      outer_member_in G s _ _ _ _ u.label (data_position_lt G (user_tuple G n) (user_region G n) u.region)

  pub outer_cell_in : (t i c : ℕ) → OuterIn G t i c → CellIn G (outer_parity G t i c)
  outer_cell_in t i c h = outer_member_in G s t i c (parity_position G t) h (parity_lt t)

  pub inner_cell_in : (t l j : ℕ) → InnerIn G t l j → CellIn G (inner_parity G t l j)
  inner_cell_in t l j h =
      record { tuple = h.tuple; position = h.position; row = omega arith; column = omega arith }

  pub cell_in : (ρ : Role) → RoleIn G ρ → CellIn G (cell_of G ρ)
  unfolding cell_of
  cell_in (User n) h = user_cell_in n.0 h
  cell_in (Outer t i c) h = outer_cell_in t.0 i c h
  cell_in (Inner t l j) h = inner_cell_in t.0 l j h

  -- and has that role
  pub role_of_user : (n : ℕ) → n < user_units_of G → role_of G (user_cell G n) ≡ user n
  unfolding user_cell
  role_of_user n h =
      let u : UserIn G (user_tuple G n) (user_region G n) (user_row G n) (user_column G n) = digits_in G n s h in
      let p = data_position_lt G (user_tuple G n) (user_region G n) u.region in
      role_user G (user_cell G n) (omega (arith, u.label.row))
      (data_position_other G (user_tuple G n) (user_region G n))
      ∙ rw (number_of_position, member_label G s _ _ _ _ u.label.column p, number_of_digits)

  pub role_of_outer : (t i c : ℕ) → OuterIn G t i c → role_of G (outer_parity G t i c) ≡ outer t i c
  role_of_outer t i c h =
      role_outer G (outer_parity G t i c) (omega (arith, h.row)) refl
      ∙ rw (member_label G s t i c (parity_position G t) h.column (parity_lt t))

  pub role_of_inner : (t l j : ℕ) → InnerIn G t l j → role_of G (inner_parity G t l j) ≡ inner t l j
  role_of_inner t l j h = role_inner G (inner_parity G t l j) refl ∙ rw (parity_diagonal G.g j h.diagonal)

  pub role_of_cell : (ρ : Role) → RoleIn G ρ → role_of G (cell_of G ρ) ≡ ρ
  unfolding cell_of
  role_of_cell (User n) h = role_of_user n.0 h
  role_of_cell (Outer t i c) h = role_of_outer t.0 i c h
  role_of_cell (Inner t l j) h = role_of_inner t.0 l j h

  module _ (x : Cell) (h : CellIn G x) where
    region_in : ¬ LastRow G x → ¬ AtParity G x → UserIn G x.tuple.0 (data_region G x) x.row (label_of G x)
    region_in n m =
        record {
          label = label_in G s x h (omega arith);
          region = data_number_lt G x.tuple.0 x.position (omega arith) h.position m;
        }

    -- a cell's role is a role of the geometry
    pub role_in : RoleIn G (role_of G x)
    role_in = go (kind G x)
      where
        go : Kind G x → RoleIn G (role_of G x)
        go (at_inner e) = rw (role_inner G x e) (diagonal_in G s x h)
        go (at_outer n e) = rw (role_outer G x n e) (label_in G s x h (omega arith))
        go (at_user n m) = rw (role_user G x n m) (number_lt G _ _ _ _ (region_in n m))

    -- and has that cell
    pub cell_of_role : cell_of G (role_of G x) ≡ x
    unfolding cell_of
    cell_of_role = go (kind G x)
      where
        go : Kind G x → cell_of G (role_of G x) ≡ x
        go (at_inner e) =
            rw (role_inner G x e, ← parity_column_lem G.g (diagonal_of G x) (diagonal_in G s x h).diagonal, ← e)
            (rw (diagonal_column_lem G s x h))
        go (at_outer n e) = rw (role_outer G x n e, ← e, label_column_lem G s x h)
        go (at_user n m) =
            rw (
              role_user G x n m,
              user_cell_lem G _ _ _ _ (region_in n m),
              position_of_number G x.tuple.0 x.position m,
              label_column_lem G s x h,
            )
