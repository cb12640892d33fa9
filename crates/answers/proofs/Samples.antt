-- What C gets for an accepted answer of each kind, field by field. Assumes nothing.
use mathlib.Core.Path.{◌≡◌, refl}
use Rattle.refusal.specs.Refusal.{accepted, refused}
use Rattle.layout.specs.Places.{place}
use Rattle.cells.specs.Roles.{user, outer, inner}
use Rattle.answers.specs.Flat.{geometry, flat_sizes, flat_map, flat_role, flat_audit, flat_count}

-- 01's example 2, user 4: "1/1, 18/1, 2/2, 19/2"
sample_map :
    flat_map (accepted (record { user = place 1 1; outer = place 18 1; inner = place 2 2; both = place 19 2 }))
    ≡ record {
      refusal = 0;
      place = 0;
      data_disk = 1;
      data_unit = 1;
      outer_disk = 18;
      outer_unit = 1;
      inner_disk = 2;
      inner_unit = 2;
      both_disk = 19;
      both_unit = 2;
    }
sample_map = refl

sample_user : flat_role (accepted (user 4)) ≡ record { refusal = 0; place = 0; kind = 0; a = 4; b = 0; c = 0 }
sample_user = refl

sample_outer : flat_role (accepted (outer 1 2 3)) ≡ record { refusal = 0; place = 0; kind = 1; a = 1; b = 2; c = 3 }
sample_outer = refl

sample_inner : flat_role (accepted (inner 1 2 3)) ≡ record { refusal = 0; place = 0; kind = 2; a = 1; b = 2; c = 3 }
sample_inner = refl

sample_refused : flat_role (refused 9 0) ≡ record { refusal = 9; place = 0; kind = 0; a = 0; b = 0; c = 0 }
sample_refused = refl

-- 01's design F: "21 disks of 9 units, 84 user units, 105 sets"
sample_sizes :
    flat_sizes (accepted (record { parts = 3; tuples = 7; disks = 21; units = 9; users = 84; sets = 105; bytes = 189 }))
    ≡ record {
      refusal = 0;
      place = 0;
      parts = 3;
      tuples = 7;
      disks = 21;
      units = 9;
      user_units = 84;
      sets = 105;
      bytes = 189;
    }
sample_sizes = refl

-- 13 sets don't XOR to zero, the lowest is set 95
sample_audit :
    flat_audit (accepted (record { bad = 13; lowest = 95 })) ≡ record { refusal = 0; place = 0; bad = 13; lowest = 95 }
sample_audit = refl

-- 18 triples for one disk of design F
sample_count : flat_count (accepted 18) ≡ record { refusal = 0; place = 0; count = 18 }
sample_count = refl

-- v, k, g and u, in C's order
sample_geometry : geometry 91 10 11 512 ≡ record { v = 91; k = 10; g = 11; u = 512 }
sample_geometry = refl
