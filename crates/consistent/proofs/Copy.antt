-- "k = 2 is the complete graph ..; its outer parity is then a copy": two bytes that XOR to zero are equal. Assumes nothing.
use Prim.Native.Nat.{ℕ, ◌+◌, ◌<◌}
use mathlib.Core.Path.{◌≡◌, sym, ap, subst, ◌∙◌}
use mathlib.Core.List.{List}
use native.Mathlib.Decide.{ℕ_discrete}
use native.Mathlib.Omega.{arith}
use lib.Bits.{bit_xor, xor_zero_r}
use lib.ListN.{get_or}
use Rattle.counting.specs.Lists.{list_of}
use Rattle.geometry.specs.declared.Geometry.{Geometry}
use Rattle.design.specs.Design.{Laid}
use Rattle.numbering.specs.Positions.{parity_position, data_position}
use Rattle.numbering.specs.Numbering.{user_tuple, user_region, user_row, user_column}
use Rattle.numbering.specs.Ranges.{OuterIn, UserIn}
use Rattle.cells.specs.Sets.{outer_member}
use Rattle.cells.specs.Roles.{user_cell, user_outer}
use Rattle.numbering.proofs.Positions.{parity_position_lt, data_position_lt, data_position_other}
use Rattle.numbering.proofs.Numbering.{digits_in}
use Rattle.cells.proofs.Roles.{user_cell_in, outer_cell_in}
use Rattle.leaves.specs.Bytes.{sum_at}
use Rattle.leaves.proofs.Runs.{bytes_run, same_bytes}
use Rattle.leaves.proofs.Xor.{xor_zero_same}
use Rattle.array.specs.Array.{cell_start}
use Rattle.array.proofs.Theorems.{each_unit_lies_in_the_array}
use Rattle.consistent.specs.Consistent.{outer_starts, Consistent}
use Rattle.consistent.specs.Theorems.{AtK2TheOuterParityIsACopy}
use Rattle.consistent.proofs.Numbers.{cell_starts}
use Rattle.consistent.proofs.Parities.{both_parities}

-- of two runs that XOR to zero, each is the other
module _ (a : List ℕ) (f : ℕ → ℕ) (i : ℕ) where
  first_second : sum_at a (list_of f 2) i ≡ 0 → get_or a (f 0 + i) 0 ≡ get_or a (f 1 + i) 0
  unfolding sum_at list_of
  first_second h =
      xor_zero_same (get_or a (f 0 + i) 0) (get_or a (f 1 + i) 0)
      (ap (bit_xor (get_or a (f 0 + i) 0)) (sym (xor_zero_r (get_or a (f 1 + i) 0))) ∙ h)

  two_same :
      sum_at a (list_of f 2) i ≡ 0 → (s t : ℕ) → s < 2 → t < 2 → (s ≡ t → ⊥) → get_or a (f s + i) 0 ≡ get_or a (f t + i) 0
  two_same h s t p q n = go (ℕ_discrete s 0)
    where
      go : Dec (s ≡ 0) → get_or a (f s + i) 0 ≡ get_or a (f t + i) 0
      go (yes x) = let y : t ≡ 1 = omega arith in rw (x, y) (first_second h)
      go (no m) =
          let x : s ≡ 1 = omega arith in
          let y : t ≡ 0 = omega arith in
          rw (x, y) (sym (first_second h))

module _ (G : Geometry) (d : List ℕ) (L : Laid G d) (two : G.k ≡ 2) (a : List ℕ) (c : Consistent G d a) where
  -- the bytes of an outer set's units at two positions
  positions_same :
      (t i e : ℕ) → OuterIn G t i e → (l m : ℕ) → l < G.k → m < G.k → (l ≡ m → ⊥) → (j : ℕ) → j < G.u
      → get_or a (cell_start G d (outer_member G t i e l) + j) 0 ≡ get_or a (cell_start G d (outer_member G t i e m) + j) 0
  unfolding outer_starts
  positions_same t i e v l m p q n j h =
      two_same a (λ (x : ℕ). cell_start G d (outer_member G t i e x)) j
      (subst (λ (k : ℕ). sum_at a (cell_starts G d (outer_member G t i e) k) j ≡ 0) two
      ((both_parities G L.sound d a c).outer t i e v j h)) l m (omega arith) (omega arith) n

pub at_k_2_the_outer_parity_is_a_copy : AtK2TheOuterParityIsACopy
unfolding user_cell user_outer
at_k_2_the_outer_parity_is_a_copy G d L two a long c m h =
    let t : ℕ = user_tuple G m in
    let u : UserIn G t (user_region G m) (user_row G m) (user_column G m) = digits_in G m L.sound h in
    let data-in = each_unit_lies_in_the_array G d L (user_cell G m) (user_cell_in G L.sound m h) in
    let parity-in = each_unit_lies_in_the_array G d L (user_outer G m) (outer_cell_in G L.sound _ _ _ u.label) in
    same_bytes (bytes_run a (cell_start G d (user_outer G m)) G.u (omega (arith, long, parity-in)))
    (bytes_run a (cell_start G d (user_cell G m)) G.u (omega (arith, long, data-in)))
    (λ (j : ℕ) (l : j < G.u).
    positions_same G d L two a c t (user_row G m) (user_column G m) u.label (parity_position G t)
    (data_position G t (user_region G m)) (parity_position_lt G t (omega (arith, L.sound.limits.k_low)))
    (data_position_lt G t (user_region G m) u.region) (λ e. data_position_other G t (user_region G m) (sym e)) j l)
