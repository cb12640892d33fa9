-- A loss: what disks that stay unmarked hold stays. Assumes nothing.
use Prim.Native.Nat.{ℕ, ◌≤◌, ◌<◌}
use mathlib.Core.Path.{◌≡◌, refl, sym, ◌∙◌}
use mathlib.Core.Logic.{⊎_elim}
use mathlib.Core.List.{List, ◌∷◌}
use native.Mathlib.Omega.{arith}
use lib.ListN.{get_or}
use Rattle.geometry.specs.declared.Geometry.{Geometry}
use Rattle.geometry.specs.Geometry.{disks_of, bytes_of}
use Rattle.histories.specs.Histories.{State, Event, lost, disk_of, Loss}
use Rattle.histories.specs.Ideal.{Ideal, last_written}
use Rattle.histories.specs.Theorems.{Keeps}
use Rattle.histories.proofs.Bytes.{disk_of_low}

-- events that write nothing leave the ideal array, and a state that keeps it goes on doing so
module _ (G : Geometry) (d : List ℕ) (es fs : List Event) (same : (m j : ℕ) → last_written fs m j ≡ last_written es m j) where
  pub ideal_on : (a : List ℕ) → Ideal G d es a → Ideal G d fs a
  ideal_on a h =
      record {
        long = h.long;
        consistent = h.consistent;
        user = λ m low j l. h.user m low j l ∙ sym (same m j);
      }

  pub keeps_on : (t : State) → Keeps G d es t → Keeps G d fs t
  keeps_on t k =
      record {
        laid = k.laid;
        array_long = k.array_long;
        marks_long = k.marks_long;
        marks_low = k.marks_low;
        three = k.three;
        ideal = k.ideal;
        is_ideal = ideal_on k.ideal k.is_ideal;
        present = k.present;
      }

module _ (G : Geometry) (d : List ℕ) (es : List Event) (s t : State) (k : Keeps G d es s) (l : Loss G s t) where
  low_after : (x : ℕ) → x < disks_of G → get_or t.marks x 0 ≤ 1
  low_after x h = ⊎_elim (λ e. omega (arith, e, k.marks_low x h)) (λ e. omega (arith, e)) (l.mark x h)

  -- a disk that is not marked after it was not before
  mark_before : (x : ℕ) → x < disks_of G → get_or t.marks x 0 ≡ 0 → get_or s.marks x 0 ≡ 0
  mark_before x h z = ⊎_elim (λ e. omega (arith, e, z)) (λ e. omega (arith, e, z)) (l.mark x h)

  pub keeps_loss : Keeps G d (lost ∷ es) t
  keeps_loss =
      record {
        laid = k.laid;
        array_long = l.array_stays_long ∙ k.array_long;
        marks_long = l.marks_stay_long ∙ k.marks_long;
        marks_low = low_after;
        three = l.three;
        ideal = k.ideal;
        is_ideal = ideal_on G d es (lost ∷ es) (λ m j. refl) k.ideal k.is_ideal;
        present =
            λ (p : ℕ) (low : p < bytes_of G) (z : get_or t.marks (disk_of G p) 0 ≡ 0).
            l.byte p low (λ e. omega (arith, e, z))
            ∙ k.present p low (mark_before (disk_of G p) (disk_of_low G p low) z);
      }
