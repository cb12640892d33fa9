-- The refusals of the read come exactly as 01 tables them. Assumes nothing.
use Prim.Native.Nat.{ℕ}
use mathlib.Core.Path.{◌≡◌, refl, sym, ap, ◌∙◌}
use mathlib.Core.Bool.{true}
use mathlib.Core.List.{List, [], ◌∷◌}
use lib.ListN.{get_or}
use Rattle.refusal.specs.Refusal.{Rule, answer}
use Rattle.refusal.specs.Due.{Row, row, Exact}
use Rattle.refusal.proofs.Exactness.{Fit, Fits, fits_append, exact}
use Rattle.geometry.specs.declared.Geometry.{Geometry}
use Rattle.layout.specs.declared.Place.{Place}
use Rattle.layout.specs.Places.{four_of}
use Rattle.layout.specs.Marks.{lost}
use Rattle.layout.proofs.Theorems.{a_unit_is_lost_with_its_disk}
use Rattle.array.specs.Rules.{array_rules}
use Rattle.array.specs.Reasons.{array_rows}
use Rattle.array.proofs.Reasons.{array_rows_fit, range_rows_fit}
use Rattle.reading.specs.Reading.{mark_rule, read_rules}
use Rattle.reading.specs.Reasons.{read_rows}

-- 12: the unit's disk has the mark 1
fit_12 :
    (G : Geometry) (marks : List ℕ) (q : Place)
    → Fit (mark_rule G marks q) (row 12 (λ (p : ℕ). (p ≡ q.disk.0) × (get_or marks p 0 ≡ 1)))
fit_12 G marks q =
    record {
      number = refl;
      holds = λ (e : lost G marks q ≡ true). (refl, (a_unit_is_lost_with_its_disk G marks q).0 e);
      only =
          λ (p : ℕ) (h : (p ≡ q.disk.0) × (get_or marks p 0 ≡ 1)).
          ((a_unit_is_lost_with_its_disk G marks q).1 (ap (λ (x : ℕ). get_or marks x 0) (sym h.0) ∙ h.1), h.0);
    }

module _ (G : Geometry) (d : List ℕ) (bytes : ℕ) (marks : List ℕ) (m o n : ℕ) where
  abbrev twelfth : Rule
  twelfth = mark_rule G marks (four_of G d m).user

  abbrev in_words : Row
  in_words = row 12 (λ (p : ℕ). (p ≡ (four_of G d m).user.disk.0) × (get_or marks p 0 ≡ 1))

  pub read_rows_fit : Fits (read_rules G d bytes marks m o n) (read_rows G d bytes marks m o n)
  unfolding read_rules
  read_rows_fit =
      fits_append (array_rules G d bytes marks) _ (array_rows G d bytes marks) _ (array_rows_fit G d bytes marks)
      (λ _. range_rows_fit G d bytes marks m o n (twelfth ∷ []) (in_words ∷ []) (fit_12 G marks (four_of G d m).user, λ _. tt))

  -- the read: 2 to 8 and 10 to 12
  pub read_exact : {A : Type 0} (a : A) → Exact (read_rows G d bytes marks m o n) (answer (read_rules G d bytes marks m o n) a)
  read_exact a = exact (read_rules G d bytes marks m o n) (read_rows G d bytes marks m o n) a read_rows_fit
