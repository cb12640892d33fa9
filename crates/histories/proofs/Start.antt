-- What an accepted format leaves: the ideal array of zeros, and no mark. Assumes nothing.
use Prim.Native.Nat.{ℕ, ◌<◌}
use mathlib.Core.Path.{◌≡◌, refl, sym, subst, ◌∙◌}
use mathlib.Core.List.{List, ◌∷◌}
use native.Mathlib.Omega.{arith}
use lib.Dec.{eqb}
use lib.ListN.{get_or, length, replicate, length-replicate}
use borrow.Author.Tests.{ne_eqb}
use Rattle.counting.proofs.Laws.{count_none}
use Rattle.refusal.specs.Refusal.{accepted, verdict}
use Rattle.geometry.specs.declared.Geometry.{Geometry}
use Rattle.geometry.specs.Geometry.{disks_of, bytes_of}
use Rattle.design.specs.Design.{Laid}
use Rattle.leaves.proofs.Runs.{at_zeros}
use Rattle.array.specs.Array.{formatted_array, formatted_marks}
use Rattle.array.specs.Rules.{array_rules}
use Rattle.array.proofs.Fits.{ready}
use Rattle.array.proofs.Exact.{format_accepted}
use Rattle.consistent.proofs.Theorems.{a_formatted_array_is_consistent}
use Rattle.histories.specs.Histories.{State, Event, formatted, FormatStep, marked_disks}
use Rattle.histories.specs.Ideal.{Ideal}
use Rattle.histories.specs.Theorems.{Keeps}
use Rattle.histories.proofs.Refused.{state, same_state}
use Rattle.std.specs.Prelude.{Ok}

module _ (G : Geometry) (d : List ℕ) where
  pub none_marked : marked_disks G (replicate (disks_of G) 0) ≡ 0
  none_marked =
      count_none (λ (x : ℕ). eqb (get_or (replicate (disks_of G) 0) x 0) 1) (disks_of G)
      (λ (x : ℕ) (l : x < disks_of G).
      ne_eqb (get_or (replicate (disks_of G) 0) x 0) 1 (λ (e : get_or (replicate (disks_of G) 0) x 0 ≡ 1). omega (arith, at_zeros (disks_of G) x)))

  zeros_ideal : (es : List Event) → Ideal G d (formatted (Ok tt) ∷ es) (formatted_array G)
  unfolding formatted_array
  zeros_ideal es =
      record {
        long = length-replicate (bytes_of G) 0;
        consistent = a_formatted_array_is_consistent G d;
        user = λ m low j l. at_zeros (bytes_of G) _;
      }

  keeps_zeros : Laid G d → (es : List Event) → Keeps G d (formatted (Ok tt) ∷ es) (state (formatted_array G) (formatted_marks G))
  unfolding formatted_marks
  keeps_zeros L es =
      record {
        laid = L;
        array_long = (zeros_ideal es).long;
        marks_long = length-replicate (disks_of G) 0;
        marks_low = λ x l. omega (arith, at_zeros (disks_of G) x);
        three = omega (arith, none_marked);
        ideal = formatted_array G;
        is_ideal = zeros_ideal es;
        present = λ p low e. refl;
      }

  module _ (s t : State) (f : FormatStep G d s (Ok tt) t) where
    pub format_fine : verdict (array_rules G d (length s.array) s.marks) ≡ accepted tt
    format_fine = rw (f.is_design, f.is_array, f.are_marks) at (sym f.meets.0)

    pub format_leaves : t ≡ state (formatted_array G) (formatted_marks G)
    format_leaves =
        let h = format_accepted f.lifetimes G f.design f.array f.marks f.array_after f.marks_after f.meets in
        same_state t (state (formatted_array G) (formatted_marks G)) (sym f.is_array_after ∙ h.0) (sym f.are_marks_after ∙ h.1)

    pub keeps_format : (es : List Event) → Keeps G d (formatted (Ok tt) ∷ es) t
    keeps_format es =
        subst (Keeps G d (formatted (Ok tt) ∷ es)) (sym format_leaves)
        (keeps_zeros (ready G d (length s.array) s.marks format_fine).laid es)
