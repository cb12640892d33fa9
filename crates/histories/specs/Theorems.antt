-- What is proved of histories, each under its sentence of 00: the statements alone. Assumes nothing.
use Rattle.std.specs.Prelude.{ℕ, ◌+◌, ◌*◌, ◌≤◌, ◌<◌, ◌≡◌, true, List, ◌∷◌, get_or, length, replicate}
use Rattle.geometry.specs.declared.Geometry.{Geometry}
use Rattle.geometry.specs.declared.UserUnit.{UserUnit}
use Rattle.geometry.specs.Geometry.{disks_of, units_of, bytes_of}
use Rattle.design.specs.Design.{Laid}
use Rattle.histories.specs.Histories.{State, Event, was_read, rebuilt}
use Rattle.histories.specs.Histories.{disk_of, marked_disks, Step, History, refused_call}
use Rattle.histories.specs.Ideal.{last_written, Ideal}
use Rattle.histories.specs.Made.{Made}
use Rattle.histories.specs.Example.{pairs, rows, events, left}
use Rattle.std.specs.Prelude.{Result, Ok}
use Rattle.refusal.specs.declared.Refusal.{Refusal}

-- dropping the newest event leaves a history, and a step from where it ended
abbrev pub AHistoryWithoutItsNewestEventIsOne : Type 0
AHistoryWithoutItsNewestEventIsOne =
    (G : Geometry) (d : List ℕ) (e f : Event) (es : List Event) (t : State) → History G d (e ∷ f ∷ es) t →
    (s : State) × History G d (f ∷ es) s × Step G d s e t

-- the events leave no choice: there is at most one such array
abbrev pub TheIdealIsOne : Type 0
TheIdealIsOne =
    (G : Geometry) (d : List ℕ) → Laid G d → (es : List Event) (a b : List ℕ) → Ideal G d es a → Ideal G d es b → a ≡ b

-- the array holds the bytes of i on every disk whose mark is 0
abbrev pub SamePresentBytes : Geometry → (marks a i : List ℕ) → Type 0
SamePresentBytes G marks a i = (p : ℕ) → p < bytes_of G → get_or marks (disk_of G p) 0 ≡ 0 → get_or a p 0 ≡ get_or i p 0

-- what holds after every event
pub record Keeps (G : Geometry) (d : List ℕ) (es : List Event) (t : State) : Type 0 where
  pub laid : Laid G d
  pub array_long : length t.array ≡ bytes_of G
  pub marks_long : length t.marks ≡ disks_of G
  pub marks_low : (x : ℕ) → x < disks_of G → get_or t.marks x 0 ≤ 1
  pub three : marked_disks G t.marks ≤ 3
  pub ideal : List ℕ
  pub is_ideal : Ideal G d es ideal
  pub present : SamePresentBytes G t.marks t.array ideal

-- every history has its ideal array, and every disk that is not marked holds its bytes
abbrev pub EveryHistoryKeepsItsIdeal : Type 0
EveryHistoryKeepsItsIdeal =
    (G : Geometry) (d : List ℕ) (es : List Event) (t : State) → History G d es t → Keeps G d es t

-- "Then rebuild is accepted, and every byte of every disk is what the last format and the accepted writes after it make where
-- nothing is lost": what is so after a history, whatever its next step
pub record AsIfNothingWereLost (G : Geometry) (d : List ℕ) (es : List Event) (t : State) : Type 0 where
  pub ideal : List ℕ
  pub is_ideal : Ideal G d es ideal
  pub only : (a : List ℕ) → Ideal G d es a → a ≡ ideal
  -- every disk that is not marked holds the ideal's bytes
  pub present : SamePresentBytes G t.marks t.array ideal
  -- an accepted read gives the bytes last written
  pub reads :
      (n : UserUnit) (offset : ℕ) (bytes : List ℕ) (w : State) → Step G d t (was_read n offset bytes (Ok tt)) w →
      (j : ℕ) → j < length bytes → get_or bytes j 0 ≡ last_written es n.0 (offset + j)
  -- a refused call leaves array and marks as they were
  pub refusals : (e : Event) (w : State) → Step G d t e w → refused_call e ≡ true → w ≡ t
  -- a rebuild is not refused, restores the units of the marked disks, and leaves the ideal and no mark
  pub rebuilds :
      (r : Result ℕ Refusal) (w : State) → Step G d t (rebuilt r) w →
      (r ≡ Ok (marked_disks G t.marks * units_of G)) × (w.array ≡ ideal) × (w.marks ≡ replicate (disks_of G) 0)
  -- and some answer meets its contract
  pub can_rebuild : (r : Result ℕ Refusal) × (w : State) × Step G d t (rebuilt r) w

abbrev pub Demand2 : Type 0
Demand2 = (G : Geometry) (d : List ℕ) (es : List Event) (t : State) → History G d es t → AsIfNothingWereLost G d es t

-- the ideal array is what the request names: the last format and the accepted writes after it, made again with nothing lost, are
-- accepted again and leave exactly it
abbrev pub TheIdealIsWhatFormatAndWritesMake : Type 0
TheIdealIsWhatFormatAndWritesMake =
    (G : Geometry) (d : List ℕ) (es : List Event) (t : State) → History G d es t → (a : List ℕ) → Ideal G d es a → Made G d es a

-- so, with no word of an ideal: whatever came before it, a rebuild is accepted and leaves what they make
abbrev pub ARebuildLeavesWhatFormatAndWritesMake : Type 0
ARebuildLeavesWhatFormatAndWritesMake =
    (G : Geometry) (d : List ℕ) (es : List Event) (t : State) → History G d es t →
    (r : Result ℕ Refusal) (w : State) → Step G d t (rebuilt r) w →
    (r ≡ Ok (marked_disks G t.marks * units_of G)) × Made G d es w.array

-- none of this is empty: thirteen events, with the numbers of their answers, and the 108 bytes that they leave
pub record ByNumbers : Type 0 where
  pub history : History pairs rows events (record { array = left; marks = replicate 9 0 })
  pub ideal : Ideal pairs rows events left
  -- the bytes of user units 0 and 13 as last written, and one that never was
  pub unit_0 : (last_written events 0 0 ≡ 0) × (last_written events 0 1 ≡ 5)
  pub unit_13 : (last_written events 13 0 ≡ 200) × (last_written events 13 1 ≡ 7)
  pub unit_17 : last_written events 17 1 ≡ 0

abbrev pub AHistoryByNumbers : Type 0
AHistoryByNumbers = ByNumbers
