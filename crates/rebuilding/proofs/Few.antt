-- At most three lost disks: counted by their flags, and no tuple is incomplete. Assumes nothing.
use Prim.Native.Nat.{ℕ, zero, suc, ◌+◌, ◌≤◌}
use mathlib.Core.Path.{◌≡◌, sym, ap, ◌∙◌}
use mathlib.Core.Bool.{Bool, true, false}
use mathlib.Core.List.{List}
use native.Mathlib.Omega.{arith}
use lib.ListN.{get_or, length, take}
use lib.Seq.{take-length}
use native.Mathlib.Numerals.{add-one}
use mathlib.Core.Logic.{◌⊎◌, inl, inr}
use Rattle.std.specs.Prelude.{None, count_by}
use Rattle.std.proofs.lemmas.List.Sums.{count_by_more_yes, count_by_more_no}
use Rattle.counting.specs.Counting.{count_below, first_below}
use Rattle.counting.proofs.Bools.{bool_either}
use Rattle.counting.proofs.Laws.{count_zero, count_more, count_same_more, count_same, first_none}
use Rattle.geometry.specs.declared.Geometry.{Geometry}
use Rattle.geometry.specs.Geometry.{tuples_of, disks_of}
use Rattle.design.specs.Design.{Laid}
use Rattle.reaching.specs.Reach.{incomplete}
use Rattle.completing.specs.Theorems.{lost_disks}
use Rattle.completing.proofs.Theorems.{three_lost_disks_are_rebuilt}
use Rattle.rebuilding.specs.Marked.{ForMarks}

-- ---- how many flags are set

first_flags : (lost : List Bool) (n : ℕ) → n ≤ length lost → count_by (λ x. x) (take n lost) ≡ count_below (λ (i : ℕ). get_or lost i false) n
first_flags lost zero h = sym (count_zero (λ (i : ℕ). get_or lost i false))
first_flags lost (suc n) h = rw (← add-one n) (go (bool_either (get_or lost n false)) (first_flags lost n (omega arith)))
  where
    go :
        (get_or lost n false ≡ true) ⊎ (get_or lost n false ≡ false)
        → count_by (λ x. x) (take n lost) ≡ count_below (λ (i : ℕ). get_or lost i false) n
        → count_by (λ x. x) (take (n + 1) lost) ≡ count_below (λ (i : ℕ). get_or lost i false) (n + 1)
    go (inl p) ih =
        count_by_more_yes (λ x. x) lost n false (omega arith) p ∙ ap (λ (m : ℕ). m + 1) ih
        ∙ sym (count_more (λ (i : ℕ). get_or lost i false) n p)
    go (inr p) ih =
        count_by_more_no (λ x. x) lost n false (omega arith) p ∙ ih
        ∙ sym (count_same_more (λ (i : ℕ). get_or lost i false) n p)

flags_counted : (lost : List Bool) → count_by (λ x. x) lost ≡ count_below (λ (i : ℕ). get_or lost i false) (length lost)
flags_counted lost = rw take-length at (first_flags lost (length lost) (omega arith))

-- ---- "at most three disks lost"

pub few_complete :
    (G : Geometry) (d : List ℕ) → Laid G d → (lost : List Bool) → length lost ≡ disks_of G → (n : ℕ)
    → n ≡ count_by (λ x. x) lost → n ≤ 3
    → ForMarks G lost (λ marks. None ≡ first_below (incomplete G d marks) (tuples_of G))
few_complete G d L lost long n is few marks w =
    let same : count_below (λ (x : ℕ). get_or lost x false) (disks_of G) ≡ lost_disks G marks = count_same _ _ (disks_of G) w in
    let count : n ≡ lost_disks G marks =
    is ∙ flags_counted lost ∙ ap (count_below (λ (x : ℕ). get_or lost x false)) long ∙ same in
    sym (first_none _ _ (three_lost_disks_are_rebuilt G d marks L (omega (arith, count, few))))
