-- The bytes of disks and the units of places; and XOR into two arrays at once. Assumes nothing.
use Prim.Native.Nat.{ℕ, zero, suc, ◌+◌, ◌*◌, ◌≤◌, ◌<◌}
use mathlib.Core.Path.{◌≡◌, refl, sym, ap, subst, ◌∙◌}
use mathlib.Core.Bool.{false}
use mathlib.Core.List.{List, [], ◌∷◌}
use native.Mathlib.Nat.{add-mul, mul_assoc, add_assoc, div-lt_iff_lt-mul}
use native.Mathlib.Omega.{arith}
use lib.Arith.{digits_lt, digits_div}
use lib.Bits.{bit_xor}
use lib.ListN.{get_or, length}
use Rattle.counting.proofs.Bools.{bool_not_both}
use Rattle.geometry.specs.declared.Geometry.{Geometry}
use Rattle.geometry.specs.Geometry.{disks_of, units_of, bytes_of}
use Rattle.geometry.proofs.Theorems.{the_array_is_its_units}
use Rattle.layout.specs.declared.Place.{Place}
use Rattle.layout.specs.Ranges.{PlaceIn}
use Rattle.layout.specs.Marks.{lost}
use Rattle.layout.proofs.Theorems.{a_unit_is_lost_with_its_disk}
use Rattle.leaves.specs.Bytes.{add_at, add_all, laid}
use Rattle.leaves.proofs.Runs.{bytes_run, same_bytes, at_add_at, length_add_at}
use Rattle.array.specs.Array.{start_of}
use Rattle.array.proofs.Starts.{start_in}
use Rattle.consistent.proofs.Units.{factor_pos}
use Rattle.rebuilding.specs.Theorems.{SamePresent}
use Rattle.histories.specs.Histories.{disk_of}
use Rattle.histories.specs.Theorems.{SamePresentBytes}

-- ---- the disk of a byte of a unit
module _ (G : Geometry) (p : Place) (h : PlaceIn G p) (j : ℕ) (l : j < G.u) where
  within : p.unit.0 * G.u + j < units_of G * G.u
  within = digits_lt h.unit l

  start_digits : start_of G p + j ≡ p.disk.0 * (units_of G * G.u) + (p.unit.0 * G.u + j)
  unfolding start_of
  start_digits =
      ap (λ (x : ℕ). x + j) (add-mul (p.disk.0 * units_of G) p.unit.0 G.u)
      ∙ add_assoc (p.disk.0 * units_of G * G.u) (p.unit.0 * G.u) j
      ∙ ap (λ (x : ℕ). x + (p.unit.0 * G.u + j)) (mul_assoc p.disk.0 (units_of G) G.u)

  pub disk_of_unit : disk_of G (start_of G p + j) ≡ p.disk.0
  disk_of_unit = ap (disk_of G) start_digits ∙ digits_div p.disk.0 within

-- a mark that is not 1 is 0
pub below_two : (m : ℕ) → m ≤ 1 → (m ≡ 1 → ⊥) → m ≡ 0
below_two zero h n = refl
below_two (suc zero) h n = absurd (n refl)
below_two (suc (suc m)) h n = absurd (omega arith)

-- a byte of the array is on one of its disks
pub disk_of_low : (G : Geometry) (p : ℕ) → p < bytes_of G → disk_of G p < disks_of G
disk_of_low G p h =
    let k : p < disks_of G * (units_of G * G.u) =
    subst (λ (x : ℕ). p < x) (the_array_is_its_units G ∙ mul_assoc (disks_of G) (units_of G) G.u) h in
    (div-lt_iff_lt-mul (factor_pos (disks_of G) (units_of G * G.u) p k)).1 k

-- ---- arrays that agree on the disks whose mark is 0
module _ (G : Geometry) (marks a i : List ℕ) (same : SamePresentBytes G marks a i) where
  pub unit_same :
      (p : Place) → PlaceIn G p → get_or marks p.disk.0 0 ≡ 0 → (j : ℕ) → j < G.u →
      get_or a (start_of G p + j) 0 ≡ get_or i (start_of G p + j) 0
  unit_same p h e j l =
      same (start_of G p + j) (omega (arith, start_in G p h)) (ap (λ (x : ℕ). get_or marks x 0) (disk_of_unit G p h j l) ∙ e)

  module _ (low : (x : ℕ) → x < disks_of G → get_or marks x 0 ≤ 1) where
    pub mark_of_present : (p : Place) → PlaceIn G p → lost G marks p ≡ false → get_or marks p.disk.0 0 ≡ 0
    mark_of_present p h e =
        let not-one : get_or marks p.disk.0 0 ≡ 1 → ⊥ =
        λ (q : get_or marks p.disk.0 0 ≡ 1). bool_not_both (lost G marks p) ((a_unit_is_lost_with_its_disk G marks p).1 q) e in
        below_two (get_or marks p.disk.0 0) (low p.disk.0 h.disk) not-one

    pub same_present : length a ≡ bytes_of G → length i ≡ bytes_of G → SamePresent G marks i a
    same_present la li p h e =
        let inside : start_of G p + G.u ≤ bytes_of G = start_in G p h in
        same_bytes (bytes_run i (start_of G p) G.u (omega (arith, li))) (bytes_run a (start_of G p) G.u (omega (arith, la)))
        (λ (j : ℕ) (l : j < G.u). sym (unit_same p h (mark_of_present p h e) j l))

-- ---- the same bytes XORed into two arrays: a byte that agrees goes on doing so
pub add_all_same :
    (a b ps e : List ℕ) (x : ℕ) → length a ≡ length b → x < length a → get_or a x 0 ≡ get_or b x 0
    → get_or (add_all a ps e) x 0 ≡ get_or (add_all b ps e) x 0
unfolding add_all
add_all_same a b [] e x long l h = h
add_all_same a b (p ∷ ps) e x long l h =
    add_all_same (add_at a p e) (add_at b p e) ps e x (length_add_at a p e ∙ long ∙ sym (length_add_at b p e))
    (rw (length_add_at a p e) l)
    (at_add_at a p e x l ∙ ap (λ (y : ℕ). bit_xor y (laid p e x)) h ∙ sym (at_add_at b p e x (rw (← long) l)))
