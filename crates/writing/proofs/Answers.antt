-- The answers of the write, case by case. Assumes nothing.
use Prim.Native.Nat.{ℕ}
use mathlib.Core.Path.{◌≡◌, refl, sym, ap, subst, ◌∙◌}
use mathlib.Core.List.{List, [], ◌∷◌, ◌++◌}
use native.Mathlib.Omega.{arith}
use lib.ListN.{length}
use Rattle.refusal.specs.Refusal.{Outcome, refused, accepted, verdict, kept}
use Rattle.refusal.proofs.Answer.{skip, stop}
use Rattle.geometry.specs.declared.Geometry.{Geometry}
use Rattle.geometry.specs.Geometry.{disks_of}
use Rattle.layout.specs.declared.Four.{Four}
use Rattle.layout.specs.Places.{four_of}
use Rattle.leaves.specs.Bytes.{written}
use Rattle.array.specs.Array.{cell_start}
use Rattle.array.specs.Rules.{array_rules, range_rules}
use Rattle.array.proofs.Fits.{ready}
use Rattle.array.proofs.Range.{ranged}
use Rattle.array.proofs.Kept.{kept_old, kept_new}
use Rattle.reading.specs.Reading.{read_of}
use Rattle.fourfold.specs.Writing.{write_cells, difference_of, write_of}
use Rattle.fourfold.specs.Ranges.{FourIn, data_start, parity_starts}
use Rattle.fourfold.proofs.Places.{four_in}
use Rattle.writing.specs.Writing.{FourMarked, write_rules}
use Rattle.writing.proofs.Reasons.{twelfth}

-- marks for all disks
pub four_marked : (G : Geometry) (f : Four) → FourIn G f → (n : ℕ) → n ≡ disks_of G → FourMarked n f
four_marked G f h n e =
    record {
      user = omega (arith, h.user.disk);
      outer = omega (arith, h.outer.disk);
      inner = omega (arith, h.inner.disk);
      both = omega (arith, h.both.disk);
    }

-- the write at the four places of the user unit
pub write_at :
    (G : Geometry) (d a : List ℕ) (m o : ℕ) (new : List ℕ) →
    write_of G d a m o new ≡ written a (data_start G (four_of G d m) o) (parity_starts G (four_of G d m) o) new
unfolding write_of write_cells difference_of read_of cell_start four_of
write_at G d a m o new = refl

module _ (G : Geometry) (d a marks : List ℕ) (m o : ℕ) (new : List ℕ) where
  abbrev answered : Outcome (Unit {0})
  answered = verdict (write_rules G d (length a) marks m o (length new))

  -- what the contract says of an answer x, and of the array at return
  abbrev pub Written : Outcome (Unit {0}) → List ℕ → Type 0
  Written x last = (x ≡ answered) × (last ≡ kept answered (write_of G d a m o new) a)

  refuses : (n p : ℕ) → answered ≡ refused n p → Written (refused n p) a
  refuses n p e = (sym e, kept_old answered n p (write_of G d a m o new) a e)

  pub array_refuses : (n p : ℕ) → verdict (array_rules G d (length a) marks) ≡ refused n p → Written (refused n p) a
  unfolding write_rules
  array_refuses n p e =
      refuses n p
      (stop (array_rules G d (length a) marks) (range_rules G m o (length new) ++ (twelfth G marks (four_of G d m) ∷ [])) tt n p e)

  module _ (checked : verdict (array_rules G d (length a) marks) ≡ accepted tt) where
    behind : answered ≡ verdict (range_rules G m o (length new) ++ (twelfth G marks (four_of G d m) ∷ []))
    unfolding write_rules
    behind =
        skip (array_rules G d (length a) marks) (range_rules G m o (length new) ++ (twelfth G marks (four_of G d m) ∷ [])) tt checked

    pub range_refuses : (n p : ℕ) → verdict (range_rules G m o (length new)) ≡ refused n p → Written (refused n p) a
    range_refuses n p e =
        refuses n p (behind ∙ stop (range_rules G m o (length new)) (twelfth G marks (four_of G d m) ∷ []) tt n p e)

    module _ (inside : verdict (range_rules G m o (length new)) ≡ accepted tt) (f : Four) (is : f ≡ four_of G d m) where
      last : answered ≡ verdict (twelfth G marks f ∷ [])
      last =
          behind ∙ skip (range_rules G m o (length new)) (twelfth G marks (four_of G d m) ∷ []) tt inside
          ∙ ap (λ (x : Four). verdict (twelfth G marks x ∷ [])) (sym is)

      pub places_in : FourIn G f
      places_in =
          subst (FourIn G) (sym is)
          (four_in G d (ready G d (length a) marks checked).laid m (ranged G m o (length new) inside).user)

      pub places_marked : FourMarked (length marks) f
      places_marked = four_marked G f places_in (length marks) (ready G d (length a) marks checked).long

      pub lost_refuses : (n p : ℕ) → verdict (twelfth G marks f ∷ []) ≡ refused n p → Written (refused n p) a
      lost_refuses n p e = refuses n p (last ∙ e)

      pub goes :
          verdict (twelfth G marks f ∷ []) ≡ accepted tt → (b : List ℕ) →
          b ≡ written a (data_start G f o) (parity_starts G f o) new → Written (accepted tt) b
      goes e b h = (
        sym (last ∙ e),
        h ∙ ap (λ (x : Four). written a (data_start G x o) (parity_starts G x o) new) is ∙ sym (write_at G d a m o new)
            ∙ kept_new answered tt (write_of G d a m o new) a (last ∙ e),
      )
