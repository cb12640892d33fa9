-- The four places of a write: each is one of the geometry's, and their ranges share no byte. Assumes nothing.
use Prim.Native.Nat.{ℕ, suc, ◌+◌, ◌≤◌, ◌<◌}
use lib.ListN.{length, drop}
use mathlib.Core.Path.{◌≡◌, ap}
use mathlib.Core.List.{List, [], ◌∷◌}
use native.Mathlib.Omega.{arith}
use Rattle.geometry.specs.declared.Geometry.{Geometry}
use Rattle.geometry.specs.Geometry.{user_units_of, bytes_of}
use Rattle.design.specs.Design.{Laid}
use Rattle.numbering.specs.Numbering.{user_tuple, user_row, user_column}
use Rattle.cells.specs.Ranges.{CellIn}
use Rattle.cells.specs.Roles.{user_outer}
use Rattle.numbering.proofs.Numbering.{digits_in}
use Rattle.cells.proofs.Roles.{user_cell_in, outer_cell_in}
use Rattle.layout.specs.declared.Place.{Place}
use Rattle.layout.specs.declared.Four.{Four}
use Rattle.layout.specs.Places.{four_of}
use Rattle.layout.specs.Ranges.{PlaceIn}
use Rattle.layout.proofs.Places.{place_in}
use Rattle.layout.proofs.SameDisk.{inner_of_in}
use Rattle.layout.proofs.Theorems.{the_four_disks_differ}
use Rattle.leaves.specs.Bytes.{Apart, Inside, FirstApart}
use Rattle.runs.proofs.Writes.{apart_part}
use Rattle.array.specs.Array.{start_of}
use Rattle.array.proofs.Starts.{start_in, starts_apart}
use Rattle.fourfold.specs.Ranges.{FourIn}
use Rattle.fourfold.proofs.Bytes.{all_each}

module _ (G : Geometry) (d : List ℕ) (L : Laid G d) (m : ℕ) (user : m < user_units_of G) where
  pub user_outer_in : CellIn G (user_outer G m)
  unfolding user_outer
  user_outer_in = outer_cell_in G L.sound (user_tuple G m) (user_row G m) (user_column G m) (digits_in G m L.sound user).label

  pub four_in : FourIn G (four_of G d m)
  unfolding four_of
  four_in =
      let x = user_cell_in G L.sound m user in
      let y = user_outer_in in
      record {
        user = place_in G d L _ x;
        outer = place_in G d L _ y;
        inner = place_in G d L _ (inner_of_in G d L _ x);
        both = place_in G d L _ (inner_of_in G d L _ y);
        apart = the_four_disks_differ G d L m user;
      }

module _ (G : Geometry) where
  -- the units of two places on two disks
  pub disks_apart :
      (p q : Place) → PlaceIn G p → PlaceIn G q → (p.disk ≡ q.disk → ⊥) → Apart (start_of G p) G.u (start_of G q) G.u
  disks_apart p q h k differ = starts_apart G p q h k (λ (e : p ≡ q). differ (ap (λ (x : Place). x.disk) e))

  -- the ranges that a write takes
  module _ (f : Four) (h : FourIn G f) (o n : ℕ) (room : o + n ≤ G.u) where
    abbrev pub four_starts : List ℕ
    four_starts = (start_of G f.user + o) ∷ (start_of G f.outer + o) ∷ (start_of G f.inner + o) ∷ (start_of G f.both + o) ∷ []

    -- lie in an array of m bytes
    pub four_inside : (m : ℕ) → m ≡ bytes_of G → Inside m four_starts n
    four_inside m e = record {
      inside =
          all_each (λ (p : ℕ). p + n ≤ m) four_starts
          (in_it f.user h.user, (in_it f.outer h.outer, (in_it f.inner h.inner, (in_it f.both h.both, tt))));
    }
      where
        in_it : (p : Place) → PlaceIn G p → start_of G p + o + n ≤ m
        in_it p k = omega (arith, start_in G p k)

    -- and the data's lies apart from the others
    pub four_apart : FirstApart four_starts n
    four_apart = record {
      first_apart =
          λ (t : ℕ) (l : suc t < length four_starts).
          all_each (λ (q : ℕ). Apart (start_of G f.user + o) n q n) (drop 1 four_starts) (
            apart f.user f.outer h.user h.outer h.apart.user_outer,
            (apart f.user f.inner h.user h.inner h.apart.user_inner, (apart f.user f.both h.user h.both h.apart.user_both, tt)),
          )
          t (omega arith);
    }
      where
        apart : (p q : Place) → PlaceIn G p → PlaceIn G q → (p.disk ≡ q.disk → ⊥) → Apart (start_of G p + o) n (start_of G q + o) n
        apart p q k l differ = apart_part _ G.u _ o n room (disks_apart p q k l differ)
