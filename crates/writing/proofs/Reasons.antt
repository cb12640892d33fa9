-- The refusals of the write come exactly as 01 tables them. Assumes nothing.
use Prim.Native.Nat.{ℕ, zero, suc, ◌<◌}
use mathlib.Core.Path.{◌≡◌, refl, sym, ap, subst, ◌∙◌}
use mathlib.Core.Logic.{◌⊎◌, inl, inr}
use mathlib.Core.Bool.{true, false}
use mathlib.Core.List.{List, [], ◌∷◌}
use native.Mathlib.Decide.{dec_lt}
use native.Mathlib.Omega.{arith}
use lib.ListN.{get_or}
use Rattle.counting.proofs.Bools.{bool_either, bool_not_both}
use Rattle.refusal.specs.Refusal.{Rule, rule, answer}
use Rattle.refusal.specs.Due.{row, Exact}
use Rattle.refusal.proofs.Exactness.{Fit, Fits, fits_append, exact}
use Rattle.refusal.proofs.Firsts.{never_true}
use Rattle.geometry.specs.declared.Geometry.{Geometry}
use Rattle.layout.specs.declared.Place.{Place}
use Rattle.layout.specs.declared.Four.{Four}
use Rattle.layout.specs.Places.{four_of}
use Rattle.layout.specs.Marks.{lost}
use Rattle.layout.proofs.Theorems.{a_unit_is_lost_with_its_disk}
use Rattle.array.specs.Rules.{array_rules}
use Rattle.array.specs.Reasons.{array_rows}
use Rattle.array.proofs.Reasons.{array_rows_fit, range_rows_fit}
use Rattle.writing.specs.Writing.{four_lost, first_lost, write_rules}
use Rattle.writing.specs.Reasons.{four_disks, FirstMarked, write_rows}

module _ (G : Geometry) (marks : List ℕ) (f : Four) where
  abbrev pub twelfth : Rule
  twelfth = rule 12 (four_lost G marks f) (first_lost G marks f)

  -- the unit at a place is lost, or present
  abbrev gone : Place → Type 0
  gone q = lost G marks q ≡ true

  abbrev here : Place → Type 0
  here q = lost G marks q ≡ false

  -- the test passes, and names disk p
  abbrev Names : ℕ → Type 0
  Names p = (four_lost G marks f ≡ true) × (first_lost G marks f ≡ p)

  pub names_user : gone f.user → Names f.user.disk.0
  unfolding four_lost first_lost
  names_user a = (rw a, rw a)

  names_outer : here f.user → gone f.outer → Names f.outer.disk.0
  unfolding four_lost first_lost
  names_outer a b = (rw (a, b), rw (a, b))

  names_inner : here f.user → here f.outer → gone f.inner → Names f.inner.disk.0
  unfolding four_lost first_lost
  names_inner a b c = (rw (a, b, c), rw (a, b, c))

  names_both : here f.user → here f.outer → here f.inner → gone f.both → Names f.both.disk.0
  unfolding four_lost first_lost
  names_both a b c e = (rw (a, b, c, e), rw (a, b, c))

  names_none : here f.user → here f.outer → here f.inner → here f.both → four_lost G marks f ≡ false
  unfolding four_lost
  names_none a b c e = rw (a, b, c, e)

  -- the disk named e-th has the mark 1
  abbrev Mark : ℕ → Type 0
  Mark e = get_or marks (get_or (four_disks f) e 0) 0 ≡ 1

  abbrev Unmarked : ℕ → Type 0
  Unmarked w = (e : ℕ) → e < w → Mark e → ⊥

  one_more : (w : ℕ) → Unmarked w → (Mark w → ⊥) → Unmarked (suc w)
  one_more w h n e l k = go (dec_lt e w)
    where
      go : Dec (e < w) → ⊥
      go (yes i) = h e i k
      go (no i) = let s : e ≡ w = omega arith in n (subst Mark s k)

  present : (q : Place) → here q → get_or marks q.disk.0 0 ≡ 1 → ⊥
  present q a k = bool_not_both (lost G marks q) ((a_unit_is_lost_with_its_disk G marks q).1 k) a

  none : Unmarked 0
  none e l k = absurd (omega arith)

  first_words : four_lost G marks f ≡ true → FirstMarked marks f (first_lost G marks f)
  first_words t =
      go (bool_either (lost G marks f.user)) (bool_either (lost G marks f.outer)) (bool_either (lost G marks f.inner))
      (bool_either (lost G marks f.both))
    where
      made :
          (w p : ℕ) → w < 4 → p ≡ get_or (four_disks f) w 0 → Names p → Mark w → Unmarked w
          → FirstMarked marks f (first_lost G marks f)
      made w p l e n k h =
          record { which = w; below = l; here = n.1 ∙ e; marked = ap (λ (x : ℕ). get_or marks x 0) (n.1 ∙ e) ∙ k; first = h }

      word : (q : Place) → gone q → get_or marks q.disk.0 0 ≡ 1
      word q = (a_unit_is_lost_with_its_disk G marks q).0

      go :
          gone f.user ⊎ here f.user → gone f.outer ⊎ here f.outer → gone f.inner ⊎ here f.inner →
          gone f.both ⊎ here f.both → FirstMarked marks f (first_lost G marks f)
      go (inl a) y z w = made 0 _ (omega arith) refl (names_user a) (word f.user a) none
      go (inr a) (inl b) z w =
          made 1 _ (omega arith) refl (names_outer a b) (word f.outer b) (one_more 0 none (present f.user a))
      go (inr a) (inr b) (inl c) w =
          made 2 _ (omega arith) refl (names_inner a b c) (word f.inner c)
          (one_more 1 (one_more 0 none (present f.user a)) (present f.outer b))
      go (inr a) (inr b) (inr c) (inl e) =
          made 3 _ (omega arith) refl (names_both a b c e) (word f.both e)
          (one_more 2 (one_more 1 (one_more 0 none (present f.user a)) (present f.outer b)) (present f.inner c))
      go (inr a) (inr b) (inr c) (inr e) = bool_not_both (four_lost G marks f) t (names_none a b c e)

  words_first : (p : ℕ) → FirstMarked marks f p → Names p
  words_first p h = go h.which h.below h.here h.first
    where
      is : (q : Place) → p ≡ q.disk.0 → gone q
      is q e = (a_unit_is_lost_with_its_disk G marks q).1 (ap (λ (x : ℕ). get_or marks x 0) (sym e) ∙ h.marked)

      isnt : (q : Place) → (get_or marks q.disk.0 0 ≡ 1 → ⊥) → here q
      isnt q n = never_true (lost G marks q) (λ (e : gone q). n ((a_unit_is_lost_with_its_disk G marks q).0 e))

      at : (q : Place) → p ≡ q.disk.0 → Names q.disk.0 → Names p
      at q e n = (n.0, n.1 ∙ sym e)

      go : (w : ℕ) → w < 4 → p ≡ get_or (four_disks f) w 0 → Unmarked w → Names p
      go zero l e u = at f.user e (names_user (is f.user e))
      go (suc zero) l e u = at f.outer e (names_outer (isnt f.user (u 0 (omega arith))) (is f.outer e))
      go (suc (suc zero)) l e u =
          at f.inner e
          (names_inner (isnt f.user (u 0 (omega arith))) (isnt f.outer (u 1 (omega arith))) (is f.inner e))
      go (suc (suc (suc zero))) l e u =
          at f.both e
          (names_both (isnt f.user (u 0 (omega arith))) (isnt f.outer (u 1 (omega arith)))
          (isnt f.inner (u 2 (omega arith))) (is f.both e))
      go (suc (suc (suc (suc w)))) l e u = absurd (omega arith)

  -- 12: the first of the four disks whose mark is 1
  fit_12 : Fit twelfth (row 12 (FirstMarked marks f))
  fit_12 =
      record {
        number = refl;
        holds = first_words;
        only = λ (p : ℕ) (h : FirstMarked marks f p). let n = words_first p h in (n.0, sym n.1);
      }

module _ (G : Geometry) (d : List ℕ) (bytes : ℕ) (marks : List ℕ) (m o n : ℕ) where
  pub write_rows_fit : Fits (write_rules G d bytes marks m o n) (write_rows G d bytes marks m o n)
  unfolding write_rules
  write_rows_fit =
      fits_append (array_rules G d bytes marks) _ (array_rows G d bytes marks) _ (array_rows_fit G d bytes marks)
      (λ _.
      range_rows_fit G d bytes marks m o n (twelfth G marks (four_of G d m) ∷ []) (row 12 (FirstMarked marks (four_of G d m)) ∷ [])
      (fit_12 G marks (four_of G d m), λ _. tt))

  -- the write: 2 to 8 and 10 to 12
  pub write_exact : {A : Type 0} (a : A) → Exact (write_rows G d bytes marks m o n) (answer (write_rules G d bytes marks m o n) a)
  write_exact a = exact (write_rules G d bytes marks m o n) (write_rows G d bytes marks m o n) a write_rows_fit
