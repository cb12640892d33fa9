-- "The buffer holds disk 0 whole, then disk 1, and so on": the units of two places have no byte in common, and each lies in
-- the array. Assumes nothing.
use Prim.Native.Nat.{ℕ, ◌+◌, ◌*◌, ◌/◌, ◌%◌, ◌≤◌, ◌<◌}
use mathlib.Core.Path.{◌≡◌, sym, ap, ap₂, ◌∙◌}
use mathlib.Core.Logic.{inl, inr}
use mathlib.Core.List.{List}
use native.Mathlib.Nat.{mul-le-mul, mul-le-mul_right, eq_of_mul-eq-mul_right}
use native.Mathlib.Decide.{dec_lt}
use native.Mathlib.Omega.{arith}
use lib.Arith.{digits_lt, digits_div, digits_mod}
use Rattle.geometry.specs.declared.Geometry.{Geometry}
use Rattle.geometry.specs.Geometry.{Sound, disks_of, units_of, bytes_of}
use Rattle.geometry.proofs.Laws.{disks_bound, units_bound}
use Rattle.geometry.proofs.Theorems.{the_array_is_its_units}
use Rattle.design.specs.Design.{Laid}
use Rattle.cells.specs.declared.Cell.{Cell}
use Rattle.cells.specs.Ranges.{CellIn}
use Rattle.layout.specs.declared.Place.{Place}
use Rattle.layout.specs.Places.{place, place_of}
use Rattle.layout.specs.Ranges.{PlaceIn}
use Rattle.layout.specs.Theorems.{place_cell}
use Rattle.layout.proofs.Theorems.{cells_are_places}
use Rattle.leaves.specs.Bytes.{Apart}
use Rattle.array.specs.Array.{start_of, cell_start}

-- the units of all disks, counted from disk 0's first
abbrev pub unit_number : Geometry → Place → ℕ
unit_number G p = p.disk.0 * units_of G + p.unit.0

module _ (G : Geometry) where
  pub unit_number_lt : (p : Place) → PlaceIn G p → unit_number G p < disks_of G * units_of G
  unit_number_lt p h = digits_lt h.disk h.unit

  -- it fits 32 bits
  pub unit_number_bound : Sound G → (p : Place) → PlaceIn G p → unit_number G p ≤ 1384110
  unit_number_bound s p h = omega (arith, unit_number_lt p h, mul-le-mul (disks_bound G s) (units_bound G s))

  pub start_in : (p : Place) → PlaceIn G p → start_of G p + G.u ≤ bytes_of G
  unfolding start_of
  start_in p h =
      let n : unit_number G p + 1 ≤ disks_of G * units_of G = omega (arith, unit_number_lt p h) in
      omega (arith, mul-le-mul_right G.u n, the_array_is_its_units G)

  module _ (p q : Place) (h : PlaceIn G p) (k : PlaceIn G q) where
    unit_number_only : unit_number G p ≡ unit_number G q → p ≡ q
    unit_number_only e =
        let disk : p.disk.0 ≡ q.disk.0 =
        sym (digits_div p.disk.0 h.unit) ∙ ap (λ (n : ℕ). n / units_of G) e ∙ digits_div q.disk.0 k.unit in
        let unit : p.unit.0 ≡ q.unit.0 =
        sym (digits_mod p.disk.0 h.unit) ∙ ap (λ (n : ℕ). n % units_of G) e ∙ digits_mod q.disk.0 k.unit in
        ap₂ place disk unit

    -- two places share no byte
    pub starts_apart : (p ≡ q → ⊥) → Apart (start_of G p) G.u (start_of G q) G.u
    unfolding start_of
    starts_apart differ = go (dec_lt (unit_number G p) (unit_number G q)) (dec_lt (unit_number G q) (unit_number G p))
      where
        go :
            Dec (unit_number G p < unit_number G q) → Dec (unit_number G q < unit_number G p)
            → Apart (unit_number G p * G.u) G.u (unit_number G q * G.u) G.u
        go (yes l) m =
            let n : unit_number G p + 1 ≤ unit_number G q = omega arith in
            record { apart = inl (omega (arith, mul-le-mul_right G.u n)) }
        go (no l) (yes m) =
            let n : unit_number G q + 1 ≤ unit_number G p = omega arith in
            record { apart = inr (omega (arith, mul-le-mul_right G.u n)) }
        go (no l) (no m) = let e : unit_number G p ≡ unit_number G q = omega arith in absurd (differ (unit_number_only e))

    -- and places that begin at one byte are one
    pub start_only : Sound G → start_of G p ≡ start_of G q → p ≡ q
    unfolding start_of
    start_only s e =
        unit_number_only (eq_of_mul-eq-mul_right G.u (omega (arith, s.u_low)) (unit_number G p) (unit_number G q) e)

module _ (G : Geometry) (d : List ℕ) (L : Laid G d) where
  pub cell_start_in : (x : Cell) → CellIn G x → cell_start G d x + G.u ≤ bytes_of G
  unfolding cell_start
  cell_start_in x h = start_in G (place_of G d x) ((cells_are_places G d L).there x h)

  module _ (x y : Cell) (h : CellIn G x) (k : CellIn G y) where
    cell_place_only : place_of G d x ≡ place_of G d y → x ≡ y
    cell_place_only e =
        let w = cells_are_places G d L in sym (w.back x h) ∙ ap (place_cell G d) e ∙ w.back y k

    -- two cells share no byte
    pub cells_apart : (x ≡ y → ⊥) → Apart (cell_start G d x) G.u (cell_start G d y) G.u
    unfolding cell_start
    cells_apart differ =
        let w = cells_are_places G d L in
        starts_apart G (place_of G d x) (place_of G d y) (w.there x h) (w.there y k) (λ e. differ (cell_place_only e))

    pub cell_start_only : cell_start G d x ≡ cell_start G d y → x ≡ y
    unfolding cell_start
    cell_start_only e =
        let w = cells_are_places G d L in
        cell_place_only (start_only G (place_of G d x) (place_of G d y) (w.there x h) (w.there y k) L.sound e)
