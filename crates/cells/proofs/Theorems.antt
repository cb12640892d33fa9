-- The theorems of specs/Theorems.antt, in its order. Assumes nothing.
use mathlib.Core.Path.{◌∙◌, ap, refl, sym, subst⁻¹}
use native.Mathlib.Omega.{arith}
use Rattle.region.specs.Columns.{label_column}
use Rattle.region.specs.Theorems.{Column}
use Rattle.region.proofs.Theorems.{the_columns_of_a_diagonal}
use Rattle.numbering.specs.Positions.{parity_position}
use Rattle.numbering.specs.Numbering.{user_number}
use Rattle.numbering.proofs.Positions.{parity_position_lt, data_position_lem}
use Rattle.cells.specs.declared.Cell.{Cell}
use Rattle.cells.specs.Sets.{outer_member}
use Rattle.cells.specs.Roles.{cell_of}
use Rattle.cells.specs.Theorems
use Rattle.cells.proofs.Sets as sets
use Rattle.cells.proofs.Roles as roles

pub the_cell_of_a_user_unit : Theorems.TheCellOfAUserUnit
unfolding cell_of user_number label_column
the_cell_of_a_user_unit G t l i c h =
    roles.user_cell_lem G t l i c h ∙ ap (outer_member G t i c) (data_position_lem G t l h.region)

pub the_cell_of_an_outer_parity : Theorems.TheCellOfAnOuterParity
unfolding cell_of parity_position label_column
the_cell_of_an_outer_parity G t i c = refl

pub the_cell_of_an_inner_parity : Theorems.TheCellOfAnInnerParity
unfolding cell_of
the_cell_of_an_inner_parity G t l j = refl

pub cells_and_roles_are_inverse : Theorems.CellsAndRolesAreInverse
cells_and_roles_are_inverse G s =
    record {
      there = roles.cell_in G s;
      back = roles.role_of_cell G s;
      role = roles.role_in G s;
      again = roles.cell_of_role G s;
    }

pub the_members_of_an_inner_set : Theorems.TheMembersOfAnInnerSet
the_members_of_an_inner_set G s t l j h x m =
    subst⁻¹ (λ (y : Cell). Column G.g y.row j y.column) m.2
    (the_columns_of_a_diagonal G.g m.0 j m.1 h.diagonal)

pub the_members_of_an_outer_set : Theorems.TheMembersOfAnOuterSet
unfolding label_column
the_members_of_an_outer_set G t i c x m =
    m.2 ∙ ap (outer_member G t i c) (sym (ap (λ (y : Cell). y.position) m.2))

pub the_parities_are_in_their_sets : Theorems.TheParitiesAreInTheirSets
unfolding cell_of
the_parities_are_in_their_sets G s =
    record {
      of_inner = λ t l j h. sets.parity_in G s t l j h.diagonal;
      of_outer = λ t i c h. (parity_position G t, parity_position_lt G t (omega arith), refl);
    }

pub a_unit_is_in_the_inner_set_of_its_diagonal : Theorems.AUnitIsInTheInnerSetOfItsDiagonal
a_unit_is_in_the_inner_set_of_its_diagonal = sets.on_diagonal

pub a_unit_is_in_the_outer_set_of_its_label : Theorems.AUnitIsInTheOuterSetOfItsLabel
a_unit_is_in_the_outer_set_of_its_label G s x h r = sets.has_label G s x h

pub each_unit_in_one_inner_set : Theorems.EachUnitInOneInnerSet
each_unit_in_one_inner_set = sets.one_inner

pub each_labelled_unit_in_one_outer_set : Theorems.EachLabelledUnitInOneOuterSet
each_labelled_unit_in_one_outer_set = sets.one_outer

pub the_last_row_in_no_outer_set : Theorems.TheLastRowInNoOuterSet
the_last_row_in_no_outer_set G x e t i c h m = omega (arith, ap (λ (y : Cell). y.row) m.2)
