-- An accepted write moves the ideal array as it moves the array. Assumes nothing.
use Prim.Native.Nat.{ℕ, ◌+◌, ◌-◌, ◌≤◌, ◌<◌}
use mathlib.Core.Path.{◌≡◌, refl, sym, ap, subst, ◌∙◌}
use mathlib.Core.Bool.{Bool, true, false, cond, ◌||◌}
use mathlib.Core.Logic.{◌⊎◌, inl, inr, ⊎_elim}
use mathlib.Core.List.{List, [], ◌∷◌, ◌++◌, map}
use native.Mathlib.Nat.{add_assoc}
use native.Mathlib.Decide.{ℕ_discrete, dec_lt}
use native.Mathlib.Omega.{arith}
use lib.Dec.{eqb, leb}
use lib.ListN.{get_or, length}
use borrow.Author.Tests.{eq-eqb, ne_eqb, le-leb, lt-leb, lt-ltb, le-ltb}
use Rattle.counting.proofs.Bools.{both_and, and_left_false, and_right_false}
use Rattle.refusal.specs.Refusal.{Rule, rule, accepted, verdict}
use Rattle.refusal.proofs.Answer.{accepted_append, accepted_quiet}
use Rattle.geometry.specs.declared.Geometry.{Geometry}
use Rattle.geometry.specs.declared.UserUnit.{UserUnit}
use Rattle.geometry.specs.Geometry.{disks_of, user_units_of, bytes_of}
use Rattle.cells.specs.declared.Cell.{Cell}
use Rattle.cells.specs.Ranges.{CellIn}
use Rattle.cells.specs.Roles.{user_cell, user_outer, inner_of}
use Rattle.layout.specs.Places.{place_of, four_of}
use Rattle.layout.specs.Ranges.{PlaceIn}
use Rattle.layout.specs.Marks.{lost}
use Rattle.layout.proofs.Places.{place_in}
use Rattle.layout.proofs.Theorems.{the_four_disks_differ}
use Rattle.leaves.specs.Bytes.{add_all, Apart, xors}
use Rattle.leaves.proofs.Runs.{bytes_run, same_bytes, at_run}
use Rattle.array.specs.Array.{start_of, cell_start}
use Rattle.array.specs.Rules.{array_rules, range_rules}
use Rattle.array.proofs.Fits.{ready}
use Rattle.array.proofs.Range.{ranged}
use Rattle.reading.specs.Reading.{read_of, mark_rule, read_rules}
use Rattle.fourfold.specs.Writing.{write_cells, difference_of, write_of}
use Rattle.fourfold.specs.Theorems.{Range, at, Beside}
use Rattle.fourfold.proofs.Places.{disks_apart}
use Rattle.fourfold.proofs.Starts.{user_in, outer_in, inner_in, range_in}
use Rattle.fourfold.proofs.WrittenSets.{a_write_keeps_a_consistent_array_consistent}
use Rattle.fourfold.proofs.Theorems.{a_write_puts_one_difference_into_four_units, a_read_after_a_write}
use Rattle.fourfold.proofs.Theorems.{other_user_units_keep_their_bytes}
use Rattle.writing.specs.Writing.{four_lost, first_lost, write_rules}
use Rattle.writing.proofs.TwoResults.{write_accepted}
use Rattle.histories.specs.Histories.{State, Event, written, WriteStep}
use Rattle.histories.specs.Ideal.{Ideal, holds, last_written}
use Rattle.histories.specs.Theorems.{SamePresentBytes, Keeps}
use Rattle.histories.proofs.Refused.{state, same_state}
use Rattle.histories.proofs.Bytes.{unit_same, mark_of_present, add_all_same}
use Rattle.std.specs.Prelude.{Ok}

first_none : (w x y z : Bool) → (w || x || y || z) ≡ false → w ≡ false
first_none true x y z e = e
first_none false x y z e = refl

-- ---- what the rules let through
module _ (G : Geometry) (d marks : List ℕ) (m o n : ℕ) where
  -- the range, and that the data disk is not lost
  pub record Through (a : List ℕ) : Type 0 where
    pub range : Range G d a m o n
    pub present : lost G marks (four_of G d m).user ≡ false

  module _ (a : List ℕ) where
    parts :
        (xs : List Rule) → verdict (array_rules G d (length a) marks ++ (range_rules G m o n ++ xs)) ≡ accepted tt →
        Range G d a m o n × (verdict xs ≡ accepted tt)
    parts xs e =
        let p = accepted_append (array_rules G d (length a) marks) (range_rules G m o n ++ xs) e in
        let q = accepted_append (range_rules G m o n) xs p.1 in
        let h = ready G d (length a) marks p.0 in
        let r = ranged G m o n q.0 in
        (record { laid = h.laid; whole = h.whole; user = r.user; inside = r.inside }, q.1)

    pub read_through : verdict (read_rules G d (length a) marks m o n) ≡ accepted tt → Through a
    unfolding read_rules
    read_through e =
        let p = parts (mark_rule G marks (four_of G d m).user ∷ []) e in
        record { range = p.0; present = (accepted_quiet (mark_rule G marks (four_of G d m).user ∷ []) tt tt p.1).0 }

    pub write_through : verdict (write_rules G d (length a) marks m o n) ≡ accepted tt → Through a
    unfolding write_rules four_lost
    write_through e =
        let twelve : Rule = rule 12 (four_lost G marks (four_of G d m)) (first_lost G marks (four_of G d m)) in
        let p = parts (twelve ∷ []) e in
        record {
          range = p.0;
          present =
              first_none (lost G marks (four_of G d m).user) (lost G marks (four_of G d m).outer) (lost G marks (four_of G d m).inner)
              (lost G marks (four_of G d m).both) (accepted_quiet (twelve ∷ []) tt tt p.1).0;
        }

  -- ---- two arrays that agree on the disks that are not marked
  module _ (a i : List ℕ) (same : SamePresentBytes G marks a i) (low : (x : ℕ) → x < disks_of G → get_or marks x 0 ≤ 1)
      (T : Through a) (li : length i ≡ bytes_of G) where
    pub range_of_ideal : Range G d i m o n
    range_of_ideal =
        record { laid = T.range.laid; whole = li; user = T.range.user; inside = T.range.inside }

    user_place : PlaceIn G (place_of G d (user_cell G m))
    user_place = place_in G d T.range.laid (user_cell G m) (user_in T.range)

    -- agree on the range
    pub same_read : read_of G d a m o n ≡ read_of G d i m o n
    unfolding read_of cell_start four_of
    same_read =
        same_bytes (bytes_run a (cell_start G d (user_cell G m) + o) n (range_in T.range (user_cell G m) (user_in T.range)))
        (bytes_run i (cell_start G d (user_cell G m) + o) n (range_in range_of_ideal (user_cell G m) (user_in range_of_ideal)))
        (λ (j : ℕ) (l : j < n).
        subst (λ (x : ℕ). get_or a x 0 ≡ get_or i x 0) (sym (add_assoc (start_of G (place_of G d (user_cell G m))) o j))
        (unit_same G marks a i same (place_of G d (user_cell G m)) user_place
        (mark_of_present G marks a i same low (place_of G d (user_cell G m)) user_place T.present) (o + j)
        (omega (arith, T.range.inside))))

    pub same_difference : (new : List ℕ) → n ≡ length new → difference_of G d a m o new ≡ difference_of G d i m o new
    unfolding difference_of
    same_difference new e =
        ap (λ (x : List ℕ). xors x new) (subst (λ (x : ℕ). read_of G d a m o x ≡ read_of G d i m o x) e same_read)

    -- and go on doing so
    pub same_written : (new : List ℕ) → n ≡ length new → SamePresentBytes G marks (write_of G d a m o new) (write_of G d i m o new)
    unfolding write_of
    same_written new e p low-p mark =
        let starts : List ℕ = map (λ (x : Cell). cell_start G d x + o) (write_cells G m) in
        add_all_same a i starts (difference_of G d a m o new) p (T.range.whole ∙ sym li) (rw T.range.whole low-p)
        (same p low-p mark)
        ∙ ap (λ (x : List ℕ). get_or (add_all i starts x) p 0) (same_difference new e)

-- ---- the user bytes after a write
module _ (G : Geometry) (d a : List ℕ) (m o : ℕ) (new : List ℕ) (R : Range G d a m o (length new)) where
  abbrev after : List ℕ
  after = write_of G d a m o new

  -- inside the range the new ones
  written_in : (j : ℕ) → o ≤ j → j < o + length new → get_or after (cell_start G d (user_cell G m) + j) 0 ≡ get_or new (j - o) 0
  unfolding read_of
  written_in j l h =
      let k : j - o < length new = omega arith in
      let e : cell_start G d (user_cell G m) + o + (j - o) ≡ cell_start G d (user_cell G m) + j = omega arith in
      subst (λ (x : ℕ). get_or after x 0 ≡ get_or new (j - o) 0) e
      (sym (at_run after (cell_start G d (user_cell G m) + o) (length new) (j - o) k)
      ∙ ap (λ (x : List ℕ). get_or x (j - o) 0) (a_read_after_a_write G d a m o new R))

  -- beside it in the unit the old ones
  beside_other :
      (x : Cell) (j : ℕ) → j < G.u → Apart (cell_start G d (user_cell G m)) G.u (cell_start G d x) G.u →
      Beside G d x o (length new) (cell_start G d (user_cell G m) + j)
  beside_other x j l h =
      ⊎_elim (λ (k : cell_start G d (user_cell G m) + G.u ≤ cell_start G d x). inl (omega arith))
      (λ (k : cell_start G d x + G.u ≤ cell_start G d (user_cell G m)). inr (omega (arith, R.inside))) h.apart

  apart_from :
      (x : Cell) → CellIn G x → ((place_of G d (user_cell G m)).disk ≡ (place_of G d x).disk → ⊥) →
      Apart (cell_start G d (user_cell G m)) G.u (cell_start G d x) G.u
  unfolding cell_start
  apart_from x h differ =
      disks_apart G (place_of G d (user_cell G m)) (place_of G d x) (place_in G d R.laid (user_cell G m) (user_in R))
      (place_in G d R.laid x h) differ

  written_beside :
      (j : ℕ) → j < G.u → (j < o) ⊎ (o + length new ≤ j) →
      get_or after (cell_start G d (user_cell G m) + j) 0 ≡ get_or a (cell_start G d (user_cell G m) + j) 0
  unfolding four_of
  written_beside j l h =
      let e = the_four_disks_differ G d R.laid m R.user in
      (a_write_puts_one_difference_into_four_units G d a m o new R).nothing_else (cell_start G d (user_cell G m) + j)
      (⊎_elim (λ (k : j < o). inl (omega arith)) (λ (k : o + length new ≤ j). inr (omega arith)) h)
      (beside_other (user_outer G m) j l (apart_from (user_outer G m) (outer_in R) e.user_outer))
      (beside_other (inner_of G (user_cell G m)) j l
      (apart_from (inner_of G (user_cell G m)) (inner_in R (user_cell G m) (user_in R)) e.user_inner))
      (beside_other (inner_of G (user_outer G m)) j l
      (apart_from (inner_of G (user_outer G m)) (inner_in R (user_outer G m) (outer_in R)) e.user_both))

  -- in other units too
  written_other :
      (w : ℕ) → w < user_units_of G → (w ≡ m → ⊥) → (j : ℕ) → j < G.u →
      get_or after (cell_start G d (user_cell G w) + j) 0 ≡ get_or a (cell_start G d (user_cell G w) + j) 0
  unfolding read_of
  written_other w low differ j l =
      let e : cell_start G d (user_cell G w) + 0 + j ≡ cell_start G d (user_cell G w) + j = omega arith in
      subst (λ (x : ℕ). get_or after x 0 ≡ get_or a x 0) e
      (sym (at_run after (cell_start G d (user_cell G w) + 0) G.u j l)
      ∙ ap (λ (x : List ℕ). get_or x j 0) (other_user_units_keep_their_bytes G d a m o new R w low differ)
      ∙ at_run a (cell_start G d (user_cell G w) + 0) G.u j l)

-- ---- the ideal array after a write
module _ (G : Geometry) (d i : List ℕ) (es : List Event) (n : UserUnit) (o : ℕ) (new : List ℕ) (R : Range G d i n.0 o (length new))
    (I : Ideal G d es i) where
  abbrev User : ℕ → ℕ → Type 0
  User m j =
      get_or (write_of G d i n.0 o new) (cell_start G d (user_cell G m) + j) 0 ≡ last_written (written n o new (Ok tt) ∷ es) m j

  chosen : (b : Bool) (m j : ℕ) → holds n.0 o (length new) m j ≡ b →
      last_written (written n o new (Ok tt) ∷ es) m j ≡ cond b (get_or new (j - o) 0) (last_written es m j)
  chosen b m j e = ap (λ (x : Bool). cond x (get_or new (j - o) 0) (last_written es m j)) e

  user_same : (m j : ℕ) → n.0 ≡ m → m < user_units_of G → j < G.u → User m j
  user_same m j e low l = go (dec_lt j o) (dec_lt j (o + length new))
    where
      unit : (j : ℕ) → eqb n.0 m ≡ true
      unit j = eq-eqb n.0 m e

      moved : {x : ℕ} → get_or (write_of G d i n.0 o new) (cell_start G d (user_cell G n.0) + j) 0 ≡ x →
          get_or (write_of G d i n.0 o new) (cell_start G d (user_cell G m) + j) 0 ≡ x
      moved h = ap (λ (y : ℕ). get_or (write_of G d i n.0 o new) (cell_start G d (user_cell G y) + j) 0) (sym e) ∙ h

      old : get_or i (cell_start G d (user_cell G n.0) + j) 0 ≡ last_written es m j
      old = ap (λ (y : ℕ). get_or i (cell_start G d (user_cell G y) + j) 0) e ∙ I.user m low j l

      go : Dec (j < o) → Dec (j < o + length new) → User m j
      go (yes h) k =
          moved (written_beside G d i n.0 o new R j l (inl h)) ∙ old
          ∙ sym (chosen false m j (and_right_false (eqb n.0 m) _ (and_left_false (leb o j) _ (lt-leb o j h))))
      go (no h) (yes k) =
          let f : o ≤ j = omega arith in
          moved (written_in G d i n.0 o new R j f k)
          ∙ sym (chosen true m j (both_and (eqb n.0 m) _ (unit j) (both_and (leb o j) _ (le-leb o j f) (lt-ltb j (o + length new) k))))
      go (no h) (no k) =
          let f : o + length new ≤ j = omega arith in
          moved (written_beside G d i n.0 o new R j l (inr f)) ∙ old
          ∙ sym (chosen false m j (and_right_false (eqb n.0 m) _ (and_right_false (leb o j) _ (le-ltb j (o + length new) f))))

  user_any : (m : ℕ) → m < user_units_of G → (j : ℕ) → j < G.u → User m j
  user_any m low j l = go (ℕ_discrete n.0 m)
    where
      go : Dec (n.0 ≡ m) → User m j
      go (yes e) = user_same m j e low l
      go (no ne) =
          written_other G d i n.0 o new R m low (λ (e : m ≡ n.0). ne (sym e)) j l ∙ I.user m low j l
          ∙ sym (chosen false m j (and_left_false (eqb n.0 m) _ (ne_eqb n.0 m ne)))

  pub ideal_written : Ideal G d (written n o new (Ok tt) ∷ es) (write_of G d i n.0 o new)
  ideal_written =
      record {
        long = (a_write_puts_one_difference_into_four_units G d i n.0 o new R).long ∙ I.long;
        consistent = a_write_keeps_a_consistent_array_consistent G d i n.0 o new R I.consistent;
        user = user_any;
      }

-- ---- an accepted write
module _ (G : Geometry) (d : List ℕ) (s t : State) (n : UserUnit) (o : ℕ) (new : List ℕ) (w : WriteStep G d s n o new (Ok tt) t) where
  pub write_fine : verdict (write_rules G d (length s.array) s.marks n.0 o (length new)) ≡ accepted tt
  write_fine = rw (w.is_design, w.is_array, w.are_marks, w.are_bytes) at (sym w.meets.0)

  pub write_leaves : t ≡ state (write_of G d s.array n.0 o new) s.marks
  write_leaves =
      same_state t (state (write_of G d s.array n.0 o new) s.marks)
      (sym w.is_array_after
      ∙ rw (w.is_design, w.is_array, w.are_bytes) at
      (write_accepted w.lifetimes G w.design w.array w.marks n o w.new w.array_after w.meets))
      w.marks_stay

  pub keeps_write : (es : List Event) → Keeps G d es s → Keeps G d (written n o new (Ok tt) ∷ es) t
  keeps_write es k =
      let T = write_through G d s.marks n.0 o (length new) s.array write_fine in
      let i : List ℕ = k.ideal in
      subst (Keeps G d (written n o new (Ok tt) ∷ es)) (sym write_leaves)
      (record {
        laid = k.laid;
        array_long = (a_write_puts_one_difference_into_four_units G d s.array n.0 o new T.range).long ∙ k.array_long;
        marks_long = k.marks_long;
        marks_low = k.marks_low;
        three = k.three;
        ideal = write_of G d i n.0 o new;
        is_ideal =
            ideal_written G d i es n o new
            (range_of_ideal G d s.marks n.0 o (length new) s.array i k.present k.marks_low T k.is_ideal.long)
            k.is_ideal;
        present =
            same_written G d s.marks n.0 o (length new) s.array i k.present k.marks_low T k.is_ideal.long new refl;
      })
