-- Two consistent arrays with the same user bytes are one: the user units give the outer parities, and both give the inner
-- ones. Assumes nothing.
use Prim.Native.Nat.{ℕ, ◌+◌, ◌-◌, ◌<◌}
use mathlib.Core.Path.{◌≡◌, sym, ap, subst, subst⁻¹, ◌∙◌}
use mathlib.Core.List.{List}
use native.Mathlib.Decide.{ℕ_discrete}
use native.Mathlib.Omega.{arith}
use lib.ListN.{get_or, length}
use lib.Seq.{ext_get_or}
use Rattle.geometry.specs.declared.Geometry.{Geometry}
use Rattle.geometry.specs.Geometry.{Sound, user_units_of, bytes_of}
use Rattle.design.specs.Design.{Laid}
use Rattle.numbering.specs.Positions.{parity_position}
use Rattle.numbering.specs.Numbering.{user_number}
use Rattle.cells.specs.declared.Cell.{Cell}
use Rattle.cells.specs.declared.Role.{Role}
use Rattle.cells.specs.Cells.{cell, label_of, diagonal_of}
use Rattle.cells.specs.Sets.{outer_member, inner_member}
use Rattle.cells.specs.Roles.{user_cell, cell_of}
use Rattle.cells.specs.Ranges.{CellIn, RoleIn}
use Rattle.cells.proofs.Sets.{outer_member_in, inner_member_in, label_in, label_column_lem, diagonal_in, diagonal_column_lem}
use Rattle.cells.proofs.Roles.{LastRow, AtParity, data_region, role_user}
use Rattle.cells.proofs.Theorems.{cells_and_roles_are_inverse}
use Rattle.leaves.specs.Bytes.{sum_at}
use Rattle.leaves.proofs.Runs.{at_run}
use Rattle.array.specs.Array.{cell_start}
use Rattle.consistent.specs.Consistent.{outer_starts, inner_starts}
use Rattle.consistent.specs.Theorems.{BothParities, AConsistentArrayIsDeterminedByItsUserBytes}
use Rattle.consistent.proofs.Numbers.{cell_starts, starts_length, start_at, start_low}
use Rattle.consistent.proofs.Parities.{both_parities}
use Rattle.consistent.proofs.Others.{all_but_one}
use Rattle.consistent.proofs.Units.{InUnit, each_byte_in_a_unit}

-- the number of the user unit in a cell that is no parity, and that the cell is its
record OfUser (G : Geometry) (x : Cell) : Type 0 where
  number : ℕ
  low : number < user_units_of G
  is : user_cell G number ≡ x

of_user : (G : Geometry) → Sound G → (x : Cell) → CellIn G x → ¬ LastRow G x → ¬ AtParity G x → OfUser G x
unfolding cell_of
of_user G s x h n m =
    let w = cells_and_roles_are_inverse G s in
    let e = role_user G x n m in
    record {
      number = user_number G x.tuple.0 (data_region G x) x.row (label_of G x);
      low = subst (RoleIn G) e (w.role x h);
      is = subst (λ (ρ : Role). cell_of G ρ ≡ x) e (w.again x h);
    }

module _ (G : Geometry) (d : List ℕ) (L : Laid G d) (a b : List ℕ) where
  -- the arrays agree on the cell's unit
  abbrev Agree : Cell → Type 0
  Agree x = (j : ℕ) → j < G.u → get_or a (cell_start G d x + j) 0 ≡ get_or b (cell_start G d x + j) 0

  -- the units of a set but one give that one
  one_agrees :
      (f : ℕ → Cell) (n q : ℕ) → q < n
      → ((j : ℕ) → j < G.u → sum_at a (cell_starts G d f n) j ≡ sum_at b (cell_starts G d f n) j)
      → ((m : ℕ) → m < n → (m ≡ q → ⊥) → Agree (f m)) → Agree (f q)
  one_agrees f n q h s e j low =
      rw (start_at G d f n q h) at
      (all_but_one a b j (cell_starts G d f n) q (omega (arith, starts_length G d f n))
      (λ (m : ℕ) (k : m < length (cell_starts G d f n)) (ne : m ≡ q → ⊥).
      let r : m < n = start_low G d f n m k in
      rw (start_at G d f n m r) (e m r ne j low)) (s j low))

  module _
      (p : BothParities G d a) (q : BothParities G d b) (same : (m : ℕ) → m < user_units_of G → Agree (user_cell G m)) where
    data_agrees : (x : Cell) → CellIn G x → ¬ LastRow G x → ¬ AtParity G x → Agree x
    data_agrees x h n m = let o = of_user G L.sound x h n m in subst Agree o.is (same o.number o.low)

    -- the other units of an outer parity's set are user units
    parity_agrees : (x : Cell) → CellIn G x → ¬ LastRow G x → AtParity G x → Agree x
    unfolding outer_starts
    parity_agrees x h n e =
        let t : ℕ = x.tuple.0 in
        let c : ℕ = label_of G x in
        let v = label_in G L.sound x h (omega arith) in
        subst Agree (ap (cell t x.position x.row) (label_column_lem G L.sound x h))
        (one_agrees (outer_member G t x.row c) G.k x.position h.position
        (λ j low. p.outer t x.row c v j low ∙ sym (q.outer t x.row c v j low))
        (λ m r ne.
        data_agrees (outer_member G t x.row c m) (outer_member_in G L.sound t x.row c m v r) n
        (λ f. ne (f ∙ sym e))))

    labelled_agrees : (x : Cell) → CellIn G x → ¬ LastRow G x → Agree x
    labelled_agrees x h n = go (ℕ_discrete x.position (parity_position G x.tuple.0))
      where
        go : Dec (AtParity G x) → Agree x
        go (yes e) = parity_agrees x h n e
        go (no m) = data_agrees x h n m

    -- the other units of an inner parity's set are in other rows
    last_agrees : (x : Cell) → CellIn G x → LastRow G x → Agree x
    unfolding inner_starts
    last_agrees x h e =
        let t : ℕ = x.tuple.0 in
        let j : ℕ = diagonal_of G x in
        let v = diagonal_in G L.sound x h in
        subst Agree (ap (cell t x.position x.row) (diagonal_column_lem G L.sound x h))
        (one_agrees (inner_member G t x.position j) G.g x.row h.row
        (λ o low. p.inner t x.position j v o low ∙ sym (q.inner t x.position j v o low))
        (λ m r ne.
        labelled_agrees (inner_member G t x.position j m) (inner_member_in G L.sound t x.position j m v r)
        (λ f. ne (f ∙ sym e))))

    cell_agrees : (x : Cell) → CellIn G x → Agree x
    cell_agrees x h = go (ℕ_discrete x.row (G.g - 1))
      where
        go : Dec (LastRow G x) → Agree x
        go (yes e) = last_agrees x h e
        go (no n) = labelled_agrees x h n

    byte_agrees : (n : ℕ) → n < bytes_of G → get_or a n 0 ≡ get_or b n 0
    byte_agrees n h =
        let w : InUnit G d n = each_byte_in_a_unit G d L n h in
        subst⁻¹ (λ (x : ℕ). get_or a x 0 ≡ get_or b x 0) w.is (cell_agrees w.held_by w.valid w.offset w.low)

pub a_consistent_array_is_determined_by_its_user_bytes : AConsistentArrayIsDeterminedByItsUserBytes
a_consistent_array_is_determined_by_its_user_bytes G d L a b la lb ca cb same =
    ext_get_or 0 a b (la ∙ sym lb)
    (λ (n : ℕ) (h : n < length a).
    byte_agrees G d L a b (both_parities G L.sound d a ca) (both_parities G L.sound d b cb)
    (λ m low j k.
    sym (at_run a (cell_start G d (user_cell G m)) G.u j k) ∙ ap (λ (x : List ℕ). get_or x j 0) (same m low)
    ∙ at_run b (cell_start G d (user_cell G m)) G.u j k) n (omega (arith, la)))
