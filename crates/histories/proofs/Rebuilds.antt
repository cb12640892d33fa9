-- An accepted rebuild leaves the ideal array and no mark; and in a history every rebuild is accepted. Assumes nothing.
use Prim.Native.Nat.{ℕ, ◌*◌, ◌≤◌, ◌<◌}
use mathlib.Core.Path.{◌≡◌, refl, sym, subst, ◌∙◌}
use mathlib.Core.List.{List, ◌∷◌}
use native.Mathlib.Omega.{arith}
use lib.ListN.{length, replicate, length-replicate}
use Rattle.counting.specs.Counting.{lowest}
use Rattle.counting.proofs.Laws.{lowest_none}
use Rattle.refusal.specs.Refusal.{accepted, verdict}
use Rattle.refusal.specs.Due.{NoneDue}
use Rattle.geometry.specs.declared.Geometry.{Geometry}
use Rattle.geometry.specs.Geometry.{disks_of, units_of, bytes_of}
use Rattle.leaves.proofs.Runs.{at_zeros}
use Rattle.sizes.specs.Sizes.{sizes_rules}
use Rattle.array.specs.Rules.{mark_high, array_rules}
use Rattle.array.specs.Reasons.{array_rows}
use Rattle.array.proofs.Fits.{words_fits, mark_low, array_fine}
use Rattle.array.proofs.Reasons.{array_exact}
use Rattle.rebuilding.proofs.Accepted.{accepted_marks, accepted_comes_back, three_accepted}
use Rattle.histories.specs.Histories.{State, Event, rebuilt, marked_disks, RebuildStep}
use Rattle.histories.specs.Theorems.{Keeps}
use Rattle.histories.proofs.Bytes.{same_present}
use Rattle.histories.proofs.Refused.{state, same_state}
use Rattle.histories.proofs.Start.{none_marked}
use Rattle.histories.proofs.Losses.{ideal_on}
use Rattle.std.specs.Prelude.{Result, Ok}
use Rattle.refusal.specs.declared.Refusal.{Refusal}

module _ (G : Geometry) (d : List ℕ) (es : List Event) (s t : State) (k : Keeps G d es s) where
  -- ---- an accepted one
  module _ (c : ℕ) (b : RebuildStep G d s (Ok c) t) where
    pub rebuild_leaves : t ≡ state k.ideal (replicate (disks_of G) 0)
    rebuild_leaves =
        same_state t (state k.ideal (replicate (disks_of G) 0))
        (sym b.is_array_after
        ∙ accepted_comes_back b.lifetimes G b.design b.array b.marks c b.array_after b.marks_after b.meets k.ideal
        k.is_ideal.long (rw b.is_design k.is_ideal.consistent)
        (rw (b.are_marks, b.is_array)
        (same_present G s.marks s.array k.ideal k.present k.marks_low k.array_long k.is_ideal.long)))
        (sym b.are_marks_after
        ∙ accepted_marks b.lifetimes G b.design b.array b.marks c b.array_after b.marks_after b.meets)

    pub keeps_rebuild : Keeps G d (rebuilt (Ok c) ∷ es) t
    keeps_rebuild =
        subst (Keeps G d (rebuilt (Ok c) ∷ es)) (sym rebuild_leaves)
        (record {
          laid = k.laid;
          array_long = k.is_ideal.long;
          marks_long = length-replicate (disks_of G) 0;
          marks_low = λ x l. omega (arith, at_zeros (disks_of G) x);
          three = omega (arith, none_marked G d);
          ideal = k.ideal;
          is_ideal = ideal_on G d es (rebuilt (Ok c) ∷ es) (λ m j. refl) k.ideal k.is_ideal;
          present = λ p low e. refl;
        })

  -- ---- none of 2 to 8 is due, where 2 to 6 and the limit let the format through
  module _ (sizes : verdict (sizes_rules G d) ≡ accepted tt) (limit : bytes_of G ≤ 1073741824) where
    pub still_fine : verdict (array_rules G d (length s.array) s.marks) ≡ accepted tt
    still_fine =
        array_fine G d (length s.array) s.marks sizes (words_fits G (length s.array) k.array_long limit) k.marks_long
        (lowest (mark_high s.marks) (length s.marks)) refl
        (omega (
          arith,
          lowest_none (mark_high s.marks) (length s.marks)
              (λ (x : ℕ) (l : x < length s.marks). mark_low s.marks x (k.marks_low x (omega (arith, k.marks_long)))),
        ))

    none_due : NoneDue (array_rows G d (length s.array) s.marks)
    none_due = (array_exact G d (length s.array) s.marks tt).acceptance.0 (tt, still_fine)

    pub rebuild_answers : (r : Result ℕ Refusal) → RebuildStep G d s r t → r ≡ Ok (marked_disks G s.marks * units_of G)
    rebuild_answers r b =
        rw b.are_marks at
        (three_accepted b.lifetimes G b.design b.array b.marks (rw (b.is_design, b.is_array, b.are_marks) none_due) r
        b.array_after b.marks_after b.meets (rw b.are_marks k.three))
