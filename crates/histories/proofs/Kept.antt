-- Every step keeps the ideal array, so every history does. Assumes nothing.
use Prim.Native.Nat.{ℕ, ◌≤◌}
use mathlib.Core.Path.{◌≡◌, refl, sym, subst}
use mathlib.Core.List.{List, [], ◌∷◌}
use lib.ListN.{length}
use Rattle.refusal.specs.Refusal.{accepted, verdict}
use Rattle.refusal.proofs.Answer.{accepted_append}
use Rattle.geometry.specs.declared.Geometry.{Geometry}
use Rattle.geometry.specs.Geometry.{bytes_of}
use Rattle.sizes.specs.Sizes.{sizes_rules}
use Rattle.array.specs.Rules.{array_rules}
use Rattle.array.proofs.Fits.{ready}
use Rattle.histories.specs.Histories.{State, Event, formatted, was_read, written, audited, rebuilt, asked, lost, Step}
use Rattle.histories.specs.Histories.{History, start, more}
use Rattle.histories.specs.Ideal.{last_written}
use Rattle.histories.specs.Theorems.{Keeps, EveryHistoryKeepsItsIdeal}
use Rattle.histories.proofs.Refused.{refused_stays}
use Rattle.histories.proofs.Start.{format_fine, keeps_format}
use Rattle.histories.proofs.Written.{keeps_write}
use Rattle.histories.proofs.Losses.{keeps_on, keeps_loss}
use Rattle.histories.proofs.Rebuilds.{keeps_rebuild}
use Rattle.std.specs.Prelude.{Ok, Err}

module _ (G : Geometry) (d : List ℕ) where
  -- the state stays and nothing was written
  keeps_still :
      (es fs : List Event) (s t : State) → ((m j : ℕ) → last_written fs m j ≡ last_written es m j) → t ≡ s → Keeps G d es s
      → Keeps G d fs t
  keeps_still es fs s t same e k = subst (Keeps G d fs) (sym e) (keeps_on G d es fs same s k)

  pub keeps_step :
      (es : List Event) (s t : State) (e : Event) → Keeps G d es s → Step G d s e t → Keeps G d (e ∷ es) t
  keeps_step es s t (formatted (Ok tt)) k h = keeps_format G d s t h es
  keeps_step es s t (formatted (Err x)) k h =
      keeps_still es (formatted (Err x) ∷ es) s t (λ m j. refl) (refused_stays G d s t (formatted (Err x)) h refl) k
  keeps_step es s t (was_read n o bytes r) k h = keeps_still es (was_read n o bytes r ∷ es) s t (λ m j. refl) h.stays k
  keeps_step es s t (written n o bytes (Ok tt)) k h = keeps_write G d s t n o bytes h es k
  keeps_step es s t (written n o bytes (Err x)) k h =
      keeps_still es (written n o bytes (Err x) ∷ es) s t (λ m j. refl)
      (refused_stays G d s t (written n o bytes (Err x)) h refl) k
  keeps_step es s t (audited r) k h = keeps_still es (audited r ∷ es) s t (λ m j. refl) h.stays k
  keeps_step es s t (rebuilt (Ok c)) k h = keeps_rebuild G d es s t k c h
  keeps_step es s t (rebuilt (Err x)) k h =
      keeps_still es (rebuilt (Err x) ∷ es) s t (λ m j. refl)
      (refused_stays G d s t (rebuilt (Err x)) h refl) k
  keeps_step es s t asked k h = keeps_still es (asked ∷ es) s t (λ m j. refl) h k
  keeps_step es s t lost k h = keeps_loss G d es s t k h

  keeps : (es : List Event) (t : State) → History G d es t → Keeps G d es t
  keeps _ _ (start s t h) = keeps_format G d s t h []
  keeps _ _ (more fs s h e t p) = keeps_step fs s t e (keeps fs s h) p

  -- what the first format let through: 2 to 6, and the limit
  passed : (bytes : ℕ) (marks : List ℕ) → verdict (array_rules G d bytes marks) ≡ accepted tt → verdict (sizes_rules G d) ≡ accepted tt
  unfolding array_rules
  passed bytes marks e = (accepted_append (sizes_rules G d) _ e).0

  pub sizes_passed : (es : List Event) (t : State) → History G d es t → (verdict (sizes_rules G d) ≡ accepted tt) × (bytes_of G ≤ 1073741824)
  sizes_passed _ _ (start s t h) = (
    passed (length s.array) s.marks (format_fine G d s t h),
    (ready G d (length s.array) s.marks (format_fine G d s t h)).limit,
  )
  sizes_passed _ _ (more fs s h e t p) = sizes_passed fs s h

pub every_history_keeps_its_ideal : EveryHistoryKeepsItsIdeal
every_history_keeps_its_ideal G d es t h = keeps G d es t h
