-- The answers of the read, case by case. Assumes nothing.
use Prim.Native.Nat.{ℕ, ◌+◌, ◌-◌, ◌<◌}
use mathlib.Core.Path.{◌≡◌, sym, ap, subst, ◌∙◌}
use mathlib.Core.List.{List, [], ◌∷◌, ◌++◌}
use native.Mathlib.Omega.{arith}
use lib.ListN.{length}
use borrow.Rule.Slice.PartMut.{mid_of}
use Rattle.refusal.specs.Refusal.{Rule, Outcome, refused, accepted, verdict, kept}
use Rattle.refusal.proofs.Answer.{skip, stop}
use Rattle.geometry.specs.declared.Geometry.{Geometry}
use Rattle.cells.specs.Roles.{user_cell}
use Rattle.cells.proofs.Roles.{user_cell_in}
use Rattle.layout.specs.declared.Place.{Place}
use Rattle.layout.specs.Places.{place_of, four_of}
use Rattle.layout.specs.Ranges.{PlaceIn}
use Rattle.layout.proofs.Places.{place_in}
use Rattle.leaves.specs.Bytes.{run}
use Rattle.array.specs.Array.{start_of, cell_start}
use Rattle.array.specs.Rules.{array_rules, range_rules}
use Rattle.array.proofs.Fits.{ready}
use Rattle.array.proofs.Range.{ranged}
use Rattle.array.proofs.Kept.{kept_old, kept_new}
use Rattle.reading.specs.Reading.{read_of, mark_rule, read_rules}

-- a part of the array as a run of it
pub part_run : (a : List ℕ) (p n : ℕ) → mid_of p (p + n - p) a ≡ run a p n
unfolding run
part_run a p n = let e : p + n - p ≡ n = omega arith in ap (λ (k : ℕ). mid_of p k a) e

module _ (G : Geometry) (d a marks : List ℕ) (m o : ℕ) (out : List ℕ) where
  abbrev answered : Outcome (Unit {0})
  answered = verdict (read_rules G d (length a) marks m o (length out))

  -- what the contract says of an answer x, and of the buffer at return
  abbrev pub Read : Outcome (Unit {0}) → List ℕ → Type 0
  Read x last = (x ≡ answered) × (last ≡ kept answered (read_of G d a m o (length out)) out)

  refuses : (n p : ℕ) → answered ≡ refused n p → Read (refused n p) out
  refuses n p e = (sym e, kept_old answered n p (read_of G d a m o (length out)) out e)

  abbrev twelfth : Rule
  twelfth = mark_rule G marks (four_of G d m).user

  pub array_refuses : (n p : ℕ) → verdict (array_rules G d (length a) marks) ≡ refused n p → Read (refused n p) out
  unfolding read_rules
  array_refuses n p e = refuses n p (stop (array_rules G d (length a) marks) (range_rules G m o (length out) ++ (twelfth ∷ [])) tt n p e)

  module _ (checked : verdict (array_rules G d (length a) marks) ≡ accepted tt) where
    behind : answered ≡ verdict (range_rules G m o (length out) ++ (twelfth ∷ []))
    unfolding read_rules
    behind = skip (array_rules G d (length a) marks) (range_rules G m o (length out) ++ (twelfth ∷ [])) tt checked

    pub range_refuses : (n p : ℕ) → verdict (range_rules G m o (length out)) ≡ refused n p → Read (refused n p) out
    range_refuses n p e = refuses n p (behind ∙ stop (range_rules G m o (length out)) (twelfth ∷ []) tt n p e)

    module _ (inside : verdict (range_rules G m o (length out)) ≡ accepted tt) (q : Place) (is : q ≡ place_of G d (user_cell G m)) where
      last : answered ≡ verdict (twelfth ∷ [])
      last = behind ∙ skip (range_rules G m o (length out)) (twelfth ∷ []) tt inside

      pub user_place_in : PlaceIn G q
      user_place_in =
          let L = (ready G d (length a) marks checked).laid in
          subst (PlaceIn G) (sym is) (place_in G d L (user_cell G m) (user_cell_in G L.sound m (ranged G m o (length out) inside).user))

      pub user_disk_in : q.disk.0 < length marks
      user_disk_in = omega (arith, user_place_in.disk, (ready G d (length a) marks checked).long)

      -- the rule of the place in hand is the read's
      abbrev marked : Outcome (Unit {0})
      marked = verdict (mark_rule G marks q ∷ [])

      by_mark : answered ≡ marked
      unfolding four_of
      by_mark = last ∙ ap (λ (x : Place). verdict (mark_rule G marks x ∷ [])) (sym is)

      pub mark_refuses : (n p : ℕ) → marked ≡ refused n p → Read (refused n p) out
      mark_refuses n p e = refuses n p (by_mark ∙ e)

      pub goes : marked ≡ accepted tt → (b : List ℕ) → b ≡ run a (start_of G q + o) (length out) → Read (accepted tt) b
      unfolding read_of cell_start
      goes e b h =
          let w = by_mark ∙ e in (
            sym w,
            h ∙ ap (λ (x : Place). run a (start_of G x + o) (length out)) is
                ∙ kept_new answered tt (read_of G d a m o (length out)) out w,
          )
