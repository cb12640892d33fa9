-- The theorems of specs/Theorems.antt, in its order. Assumes nothing.
use Prim.Native.Nat.{ℕ}
use mathlib.Core.Path.{◌≡◌, ◌∙◌, ap, refl, sym}
use mathlib.Core.List.{List}
use lib.Dec.{eqb}
use lib.ListN.{get_or}
use borrow.Author.Tests.{eq-eqb, eqb-true}
use Rattle.geometry.specs.declared.Disk.{Disk}
use Rattle.geometry.specs.declared.Geometry.{Geometry}
use Rattle.geometry.specs.declared.UserUnit.{UserUnit}
use Rattle.design.specs.Design.{Laid}
use Rattle.cells.specs.declared.Cell.{Cell}
use Rattle.cells.specs.Cells.{diagonal_of}
use Rattle.cells.specs.Roles.{user_cell, user_outer, inner_of, user, inner, role_of, cell_of}
use Rattle.cells.specs.Ranges.{CellIn}
use Rattle.numbering.proofs.Numbering.{digits_in}
use Rattle.cells.proofs.Sets as sets
use Rattle.cells.proofs.Roles as roles
use Rattle.layout.specs.Regions.{part_of}
use Rattle.layout.specs.Places.{place_of, role_at, four_of}
use Rattle.layout.specs.Marks.{lost}
use Rattle.layout.specs.Theorems
use Rattle.layout.specs.Theorems.{place_cell, place_role}
use Rattle.layout.proofs.Regions as regions
use Rattle.layout.proofs.Places as places
use Rattle.layout.proofs.SameDisk as disks

pub the_place_of_a_cell : Theorems.ThePlaceOfACell
unfolding place_of part_of
the_place_of_a_cell G d t l i x a e = rw e

pub each_part_is_one_region : Theorems.EachPartIsOneRegion
each_part_is_one_region G d L =
    record { group = regions.group_lt G d L; part = regions.part_lt G d L; each = regions.one_region G d L }

pub cells_are_places : Theorems.CellsArePlaces
cells_are_places G d L =
    record {
      there = places.place_in G d L;
      back = places.cell_at_place G d L;
      here = λ p h. places.cell_at_in G d L p.disk.0 p.unit.0 h.disk h.unit;
      again = λ p h. places.place_of_cell G d L p.disk.0 p.unit.0 h.disk h.unit;
    }

module _ (G : Geometry) (d : List ℕ) (L : Laid G d) where
  -- the way back of a cell's place is the cell's role
  role_of_place : (x : Cell) → CellIn G x → place_role G d (place_of G d x) ≡ role_of G x
  unfolding role_at
  role_of_place x h = ap (role_of G) (places.cell_at_place G d L x h)

  -- the way back of the place of a cell's inner parity is the inner parity of the cell's diagonal
  role_of_inner_place :
      (x : Cell) → CellIn G x →
      place_role G d (place_of G d (inner_of G x)) ≡ inner x.tuple.0 x.position (diagonal_of G x)
  unfolding inner_of
  role_of_inner_place x h =
      role_of_place (inner_of G x) (disks.inner_of_in G d L x h)
      ∙ roles.role_of_inner G L.sound _ _ _ (sets.diagonal_in G L.sound x h)

pub the_way_back_is_the_inverse : Theorems.TheWayBackIsTheInverse
unfolding role_at
the_way_back_is_the_inverse G d L =
    let w = cells_are_places G d L in
    record {
      there = λ ρ h. w.there (cell_of G ρ) (roles.cell_in G L.sound ρ h);
      back = λ ρ h.
          role_of_place G d L (cell_of G ρ) (roles.cell_in G L.sound ρ h) ∙ roles.role_of_cell G L.sound ρ h;
      role = λ p h. roles.role_in G L.sound (place_cell G d p) (w.here p h);
      again = λ p h. ap (place_of G d) (roles.cell_of_role G L.sound (place_cell G d p) (w.here p h)) ∙ w.again p h;
    }

pub each_disk_unit_has_one_role : Theorems.EachDiskUnitHasOneRole
each_disk_unit_has_one_role G d L p h =
    let w = the_way_back_is_the_inverse G d L in
    record {
      role = place_role G d p;
      valid = w.role p h;
      here = w.again p h;
      only = λ ρ v e. sym (w.back ρ v) ∙ ap (place_role G d) e;
    }

pub the_roles_of_the_four_places : Theorems.TheRolesOfTheFourPlaces
unfolding four_of user_cell user_outer
the_roles_of_the_four_places G d L n h =
    let u = digits_in G n L.sound h in
    let x = roles.user_cell_in G L.sound n h in
    let y = roles.outer_cell_in G L.sound _ _ _ u.label in
    record {
      of_user = role_of_place G d L (user_cell G n) x ∙ roles.role_of_user G L.sound n h;
      of_outer = role_of_place G d L (user_outer G n) y ∙ roles.role_of_outer G L.sound _ _ _ u.label;
      of_inner = role_of_inner_place G d L (user_cell G n) x;
      of_both = role_of_inner_place G d L (user_outer G n) y;
      user_in_outer = ((user_cell G n).position, x.position, refl);
      outer_in_outer = ((user_outer G n).position, y.position, refl);
      user_in_inner = sets.on_diagonal G L.sound (user_cell G n) x;
      outer_in_inner = sets.on_diagonal G L.sound (user_outer G n) y;
    }

pub no_two_user_units_share_a_place : Theorems.NoTwoUserUnitsShareAPlace
no_two_user_units_share_a_place G d L m n h q e =
    let x = (the_roles_of_the_four_places G d L m h).of_user in
    let y = (the_roles_of_the_four_places G d L n q).of_user in
    let z : user m ≡ user n = sym x ∙ ap (place_role G d) e ∙ y in
    let w : ◌≡◌ {A = UserUnit} (record { 0 = m }) (record { 0 = n }) = cc in
    ap (λ (o : UserUnit). o.0) w

pub the_four_disks_differ : Theorems.TheFourDisksDiffer
the_four_disks_differ = disks.four_apart

pub no_outer_set_holds_two_units_of_a_disk : Theorems.NoOuterSetHoldsTwoUnitsOfADisk
no_outer_set_holds_two_units_of_a_disk = disks.outer_apart

pub no_inner_set_holds_two_units_of_a_disk : Theorems.NoInnerSetHoldsTwoUnitsOfADisk
no_inner_set_holds_two_units_of_a_disk = disks.inner_apart

pub a_unit_is_lost_with_its_disk : Theorems.AUnitIsLostWithItsDisk
unfolding lost
a_unit_is_lost_with_its_disk G marks p =
    (eqb-true (get_or marks p.disk.0 0) 1, eq-eqb (get_or marks p.disk.0 0) 1)

pub units_of_a_disk_are_lost_together : Theorems.UnitsOfADiskAreLostTogether
unfolding lost
units_of_a_disk_are_lost_together G marks p q = ap (λ (x : Disk). eqb (get_or marks x.0 0) 1)
