-- The answer of 2 to 8 from that of 2 to 6 and the tests of 7 and 8, and what an accepted call on the array may rely on.
-- Assumes nothing.
use Prim.Native.Nat.{ℕ, ◌≤◌, ◌<◌}
use mathlib.Core.Path.{◌≡◌, sym, ap, ◌∙◌}
use mathlib.Core.Bool.{Bool, true, false, not, ◌&&◌}
use mathlib.Core.List.{List, [], ◌∷◌}
use native.Mathlib.Omega.{arith}
use lib.Dec.{leb, eqb}
use lib.ListN.{get_or, length}
use borrow.Author.Tests.{le-ltb, lt-ltb, leb-true, le-leb, lt-leb, eqb-true, eq-eqb, ne_eqb, ltb-true, ltb-false, not-false}
use Rattle.std.specs.Prelude.{Some, None}
use Rattle.counting.specs.Counting.{lowest, any_below, first_below}
use Rattle.counting.proofs.Bools.{and_both, both_and, and_left_false, and_right_false, not_is_true, not_is_false}
use Rattle.counting.proofs.Laws.{any_none, first_some, first_silent}
use Rattle.refusal.specs.Refusal.{Rule, rule, refused, accepted, verdict}
use Rattle.refusal.proofs.Answer.{first, next, skip, stop, accepted_append, accepted_quiet}
use Rattle.geometry.specs.declared.Geometry.{Geometry}
use Rattle.geometry.specs.Geometry.{disks_of, bytes_of}
use Rattle.design.specs.Design.{Laid}
use Rattle.sizes.specs.Sizes.{sizes_rules}
use Rattle.sizes.proofs.Reasons.{accepted_is_laid}
use Rattle.array.specs.Rules.{array_fits, mark_high, array_rules}

module _ (G : Geometry) (bytes : ℕ) where
  pub fits_above : 1073741824 < bytes_of G → array_fits G bytes ≡ false
  unfolding array_fits
  fits_above h = and_right_false (eqb bytes (bytes_of G)) _ (lt-leb (bytes_of G) 1073741824 h)

  pub fits_within : (whole : ℕ) → whole ≡ bytes_of G → whole ≤ 1073741824 → eqb bytes whole ≡ array_fits G bytes
  unfolding array_fits
  fits_within whole e h = go (eqb bytes whole) (ap (eqb bytes) e) (le-leb (bytes_of G) 1073741824 (omega arith))
    where
      go : (b : Bool) → b ≡ eqb bytes (bytes_of G) → leb (bytes_of G) 1073741824 ≡ true → b ≡ (eqb bytes (bytes_of G) && leb (bytes_of G) 1073741824)
      go true p q = sym (both_and _ _ (sym p) q)
      go false p q = sym (and_left_false _ _ (sym p))

  pub fits_words : array_fits G bytes ≡ true → (bytes ≡ bytes_of G) × (bytes_of G ≤ 1073741824)
  unfolding array_fits
  fits_words e =
      let h = and_both (eqb bytes (bytes_of G)) (leb (bytes_of G) 1073741824) e in
      (eqb-true bytes (bytes_of G) h.0, leb-true (bytes_of G) 1073741824 h.1)

  pub words_fits : bytes ≡ bytes_of G → bytes_of G ≤ 1073741824 → array_fits G bytes ≡ true
  unfolding array_fits
  words_fits e h = both_and _ _ (eq-eqb bytes (bytes_of G) e) (le-leb (bytes_of G) 1073741824 h)

module _ (marks : List ℕ) (x : ℕ) where
  pub mark_high_lem : 1 < get_or marks x 0 → mark_high marks x ≡ true
  unfolding mark_high
  mark_high_lem h = lt-ltb 1 (get_or marks x 0) h

  pub high_mark : mark_high marks x ≡ true → 1 < get_or marks x 0
  unfolding mark_high
  high_mark e = ltb-true 1 (get_or marks x 0) e

  pub mark_low : get_or marks x 0 ≤ 1 → mark_high marks x ≡ false
  unfolding mark_high
  mark_low h = le-ltb 1 (get_or marks x 0) h

  pub low_mark : mark_high marks x ≡ false → get_or marks x 0 ≤ 1
  unfolding mark_high
  low_mark e = ltb-false 1 (get_or marks x 0) e

module _ (G : Geometry) (d : List ℕ) (bytes : ℕ) (marks : List ℕ) where
  abbrev Fine : Type 0
  Fine = verdict (sizes_rules G d) ≡ accepted tt

  abbrev seventh : Rule
  seventh = rule 7 (not (array_fits G bytes && eqb (length marks) (disks_of G))) 0

  abbrev eighth : Rule
  eighth = rule 8 (any_below (mark_high marks) (length marks)) (lowest (mark_high marks) (length marks))

  -- refused by 2 to 6
  pub array_refused : (n p : ℕ) → verdict (sizes_rules G d) ≡ refused n p → verdict (array_rules G d bytes marks) ≡ refused n p
  unfolding array_rules
  array_refused n p e = stop (sizes_rules G d) (seventh ∷ eighth ∷ []) tt n p e

  -- by 7
  seven : Fine → (array_fits G bytes && eqb (length marks) (disks_of G)) ≡ false → verdict (array_rules G d bytes marks) ≡ refused 7 0
  unfolding array_rules
  seven e h = skip (sizes_rules G d) (seventh ∷ eighth ∷ []) tt e ∙ first seventh (eighth ∷ []) tt (not_is_true _ h)

  pub array_unfit : Fine → array_fits G bytes ≡ false → verdict (array_rules G d bytes marks) ≡ refused 7 0
  array_unfit e h = seven e (and_left_false (array_fits G bytes) _ h)

  pub marks_unfit : Fine → (length marks ≡ disks_of G → ⊥) → verdict (array_rules G d bytes marks) ≡ refused 7 0
  marks_unfit e h = seven e (and_right_false (array_fits G bytes) _ (ne_eqb (length marks) (disks_of G) h))

  module _ (e : Fine) (fits : array_fits G bytes ≡ true) (long : length marks ≡ disks_of G) where
    eight : verdict (array_rules G d bytes marks) ≡ verdict (eighth ∷ [])
    unfolding array_rules
    eight =
        skip (sizes_rules G d) (seventh ∷ eighth ∷ []) tt e
        ∙ next seventh (eighth ∷ []) tt (not_is_false _ (both_and _ _ fits (eq-eqb (length marks) (disks_of G) long)))

    -- by 8
    pub marks_high : (high : ℕ) → first_below (mark_high marks) (length marks) ≡ Some high → verdict (array_rules G d bytes marks) ≡ refused 8 high
    marks_high high h = let w = first_some (mark_high marks) (length marks) high h in eight ∙ rw (w.0, ← w.1)

    -- not refused
    pub marks_fine : first_below (mark_high marks) (length marks) ≡ None → verdict (array_rules G d bytes marks) ≡ accepted tt
    marks_fine h = eight ∙ rw (first_silent (mark_high marks) (length marks) h)

    pub array_fine :
        (high : ℕ) → high ≡ lowest (mark_high marks) (length marks) → length marks ≤ high →
        verdict (array_rules G d bytes marks) ≡ accepted tt
    array_fine high is h = eight ∙ rw (← is, le-ltb high (length marks) h)

  -- what a call on the array may rely on
  pub record Ready : Type 0 where
    pub laid : Laid G d
    pub whole : bytes ≡ bytes_of G
    pub limit : bytes_of G ≤ 1073741824
    pub long : length marks ≡ disks_of G
    pub low : (x : ℕ) → x < length marks → get_or marks x 0 ≤ 1

  pub ready : verdict (array_rules G d bytes marks) ≡ accepted tt → Ready
  unfolding array_rules
  ready e =
      let a = accepted_append (sizes_rules G d) (seventh ∷ eighth ∷ []) e in
      let q = accepted_quiet (seventh ∷ eighth ∷ []) tt tt a.1 in
      let h = and_both (array_fits G bytes) (eqb (length marks) (disks_of G)) (not-false _ q.0) in
      let w = fits_words G bytes h.0 in
      record {
        laid = accepted_is_laid G d a.0;
        whole = w.0;
        limit = w.1;
        long = eqb-true (length marks) (disks_of G) h.1;
        low = λ (x : ℕ) (l : x < length marks). low_mark marks x (any_none (mark_high marks) (length marks) q.1.0 x l);
      }
