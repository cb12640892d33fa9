-- "The buffer holds disk 0 whole, then disk 1, and so on": each byte of the array is a byte of the unit of a cell.
-- Assumes nothing.
use Prim.Native.Nat.{ℕ, zero, suc, ◌+◌, ◌*◌, ◌/◌, ◌%◌, ◌<◌}
use mathlib.Core.Path.{◌≡◌, sym, subst, ap, ◌∙◌}
use mathlib.Core.List.{List}
use native.Mathlib.Nat.{mod-lt, div-add-mod', div-lt_iff_lt-mul}
use native.Mathlib.Omega.{arith}
use Rattle.geometry.specs.declared.Geometry.{Geometry}
use Rattle.geometry.specs.Geometry.{disks_of, units_of, bytes_of}
use Rattle.geometry.proofs.Theorems.{the_array_is_its_units}
use Rattle.design.specs.Design.{Laid}
use Rattle.cells.specs.declared.Cell.{Cell}
use Rattle.cells.specs.Ranges.{CellIn}
use Rattle.layout.specs.declared.Place.{Place}
use Rattle.layout.specs.Places.{place}
use Rattle.layout.specs.Ranges.{PlaceIn}
use Rattle.layout.specs.Theorems.{place_cell}
use Rattle.layout.proofs.Theorems.{cells_are_places}
use Rattle.array.specs.Array.{start_of, cell_start}

-- byte n is byte `offset` of the cell's unit
pub record InUnit (G : Geometry) (d : List ℕ) (n : ℕ) : Type 0 where
  pub held_by : Cell
  pub valid : CellIn G held_by
  pub offset : ℕ
  pub low : offset < G.u
  pub is : n ≡ cell_start G d held_by + offset

-- what is below a product has a factor that is not zero
pub factor_pos : (m n q : ℕ) → q < m * n → 0 < n
factor_pos m zero q h = absurd (omega arith)
factor_pos m (suc n) q h = omega arith

module _ (G : Geometry) (d : List ℕ) (L : Laid G d) where
  -- unit q, counted from disk 0's first, is on disk q / units
  pub unit_place : (q : ℕ) → q < disks_of G * units_of G → PlaceIn G (place (q / units_of G) (q % units_of G))
  unit_place q h =
      let pos : 0 < units_of G = factor_pos (disks_of G) (units_of G) q h in
      record { disk = (div-lt_iff_lt-mul pos).1 h; unit = mod-lt q pos }

  unit_start : (q : ℕ) → start_of G (place (q / units_of G) (q % units_of G)) ≡ q * G.u
  unfolding start_of
  unit_start q = ap (λ (x : ℕ). x * G.u) (div-add-mod' q (units_of G))

  pub each_byte_in_a_unit : (n : ℕ) → n < bytes_of G → InUnit G d n
  unfolding cell_start
  each_byte_in_a_unit n h =
      let pos : 0 < G.u = omega (arith, L.sound.u_low) in
      let q : ℕ = n / G.u in
      let p : Place = place (q / units_of G) (q % units_of G) in
      let low : q < disks_of G * units_of G =
      (div-lt_iff_lt-mul pos).1 (subst (λ (x : ℕ). n < x) (the_array_is_its_units G) h) in
      let w = cells_are_places G d L in
      record {
        held_by = place_cell G d p;
        valid = w.here p (unit_place q low);
        offset = n % G.u;
        low = mod-lt n pos;
        is =
            sym (div-add-mod' n G.u)
            ∙ ap (λ (x : ℕ). x + n % G.u) (sym (ap (start_of G) (w.again p (unit_place q low)) ∙ unit_start q));
      }
