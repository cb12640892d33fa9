-- 00, demand 2: "Start from a formatted array and make any calls with that one design and those sizes, with at most three disks
-- lost at a time, each marked before the next call and unmarked only by rebuild or format." Assumes nothing.
use Rattle.std.specs.Prelude.{ℕ, ◌*◌, ◌/◌, ◌≤◌, ◌<◌, ◌≡◌, Bool, true, false, ◌⊎◌, List, [], ◌∷◌, eqb, get_or, length}
use contract.Lifetimes.{Lfts}
use Rattle.std.specs.Borrow.{Bor, MutBor}
use Rattle.counting.specs.Counting.{count_below}
use Rattle.geometry.specs.declared.Geometry.{Geometry}
use Rattle.geometry.specs.declared.UserUnit.{UserUnit}
use Rattle.geometry.specs.Geometry.{disks_of, units_of, bytes_of}
use Rattle.array.proofs.format.Reads as format
use Rattle.reading.proofs.read.Reads as read
use Rattle.writing.proofs.write.Reads as write
use Rattle.auditing.proofs.audit.Reads as audit
use Rattle.rebuilding.proofs.rebuild.Reads as rebuild
use Rattle.finding.specs.declared.Found.{Found}
use Rattle.std.specs.Prelude.{Result, Ok, Err}
use Rattle.refusal.specs.declared.Refusal.{Refusal}

-- the bytes of all disks, and the mark of each disk
pub record State : Type 0 where
  pub array : List ℕ
  pub marks : List ℕ

-- what happens, with what the caller lent and what was answered: `bytes` of a read are those of the buffer at return; `asked` is
-- any other public call, none of which is lent the array, nor the marks to change; `lost` is no call
pub data Event : Type 0 where
  formatted : Result (Unit {0}) Refusal → Event
  was_read : (n : UserUnit) → (offset : ℕ) → (bytes : List ℕ) → Result (Unit {0}) Refusal → Event
  written : (n : UserUnit) → (offset : ℕ) → (bytes : List ℕ) → Result (Unit {0}) Refusal → Event
  audited : Result Found Refusal → Event
  rebuilt : Result ℕ Refusal → Event
  asked : Event
  lost : Event

-- "The buffer holds disk 0 whole, then disk 1, and so on": the disk of byte p [for r, g and u of 1 or more]
abbrev pub disk_of : Geometry → ℕ → ℕ
disk_of G p = p / (units_of G * G.u)

-- how many disks have the mark 1
abbrev pub marked_disks : Geometry → (marks : List ℕ) → ℕ
marked_disks G marks = count_below (λ (x : ℕ). eqb (get_or marks x 0) 1) (disks_of G)

-- "at most three disks lost at a time, each marked before the next call": bytes change only on disks that are marked then. A disk
-- that is marked already may be hit again
pub record Loss (G : Geometry) (s t : State) : Type 0 where
  pub array_stays_long : length t.array ≡ length s.array
  pub marks_stay_long : length t.marks ≡ length s.marks
  pub mark : (x : ℕ) → x < disks_of G → (get_or t.marks x 0 ≡ get_or s.marks x 0) ⊎ (get_or t.marks x 0 ≡ 1)
  pub byte : (p : ℕ) → p < bytes_of G → (get_or t.marks (disk_of G p) 0 ≡ 1 → ⊥) → get_or t.array p 0 ≡ get_or s.array p 0
  pub three : marked_disks G t.marks ≤ 3

-- the calls, each by its own contract between references that hold the state before and after; format and rebuild are lent a
-- design, the array and the marks, and may change the last two
abbrev pub Handed : Type 0
Handed = Geometry × (Bor (List ℕ) × (MutBor (List ℕ) × (MutBor (List ℕ) × Unit {0})))

pub record BothStep
    {R : Type 0} (Post : Lfts 3 → Handed → R → Handed → Type 0) (G : Geometry) (d : List ℕ) (s : State) (r : R) (t : State) : Type 0
  where
    pub lifetimes : Lfts 3
    pub design : Bor (List ℕ)
    pub array : MutBor (List ℕ)
    pub marks : MutBor (List ℕ)
    pub array_after : MutBor (List ℕ)
    pub marks_after : MutBor (List ℕ)
    pub is_design : design.now ≡ d
    pub is_array : array.now ≡ s.array
    pub are_marks : marks.now ≡ s.marks
    pub is_array_after : array_after.now ≡ t.array
    pub are_marks_after : marks_after.now ≡ t.marks
    pub meets : Post lifetimes (G, (design, (array, (marks, tt)))) r (G, (design, (array_after, (marks_after, tt))))

abbrev pub FormatStep : Geometry → List ℕ → State → Result (Unit {0}) Refusal → State → Type 0
FormatStep = BothStep format.Post

abbrev pub RebuildStep : Geometry → List ℕ → State → Result ℕ Refusal → State → Type 0
RebuildStep = BothStep rebuild.Post

pub record ReadStep (G : Geometry) (d : List ℕ) (s : State) (n : UserUnit) (offset : ℕ) (bytes : List ℕ) (r : Result (Unit {0}) Refusal) (t : State) : Type 0 where
  pub lifetimes : Lfts 4
  pub design : Bor (List ℕ)
  pub array : Bor (List ℕ)
  pub marks : Bor (List ℕ)
  pub out : MutBor (List ℕ)
  pub out_after : MutBor (List ℕ)
  pub is_design : design.now ≡ d
  pub is_array : array.now ≡ s.array
  pub are_marks : marks.now ≡ s.marks
  pub are_bytes : out_after.now ≡ bytes
  pub stays : t ≡ s
  pub meets :
      read.Post lifetimes (G, (design, (array, (marks, (n, (offset, (out, tt))))))) r
      (G, (design, (array, (marks, (n, (offset, (out_after, tt)))))))

pub record WriteStep (G : Geometry) (d : List ℕ) (s : State) (n : UserUnit) (offset : ℕ) (bytes : List ℕ) (r : Result (Unit {0}) Refusal) (t : State) : Type 0 where
  pub lifetimes : Lfts 4
  pub design : Bor (List ℕ)
  pub array : MutBor (List ℕ)
  pub marks : Bor (List ℕ)
  pub new : Bor (List ℕ)
  pub array_after : MutBor (List ℕ)
  pub is_design : design.now ≡ d
  pub is_array : array.now ≡ s.array
  pub are_marks : marks.now ≡ s.marks
  pub are_bytes : new.now ≡ bytes
  pub is_array_after : array_after.now ≡ t.array
  pub marks_stay : t.marks ≡ s.marks
  pub meets :
      write.Post lifetimes (G, (design, (array, (marks, (n, (offset, (new, tt))))))) r
      (G, (design, (array_after, (marks, (n, (offset, (new, tt)))))))

pub record AuditStep (G : Geometry) (d : List ℕ) (s : State) (r : Result Found Refusal) (t : State) : Type 0 where
  pub lifetimes : Lfts 2
  pub design : Bor (List ℕ)
  pub array : Bor (List ℕ)
  pub is_design : design.now ≡ d
  pub is_array : array.now ≡ s.array
  pub stays : t ≡ s
  pub meets : audit.Post lifetimes (G, (design, (array, tt))) r (G, (design, (array, tt)))

-- from one state to the next, "with that one design and those sizes"
abbrev pub Step : Geometry → List ℕ → State → Event → State → Type 0
Step G d s (formatted r) t = FormatStep G d s r t
Step G d s (was_read n o bytes r) t = ReadStep G d s n o bytes r t
Step G d s (written n o bytes r) t = WriteStep G d s n o bytes r t
Step G d s (audited r) t = AuditStep G d s r t
Step G d s (rebuilt r) t = RebuildStep G d s r t
Step G d s asked t = t ≡ s
Step G d s lost t = Loss G s t

-- "Start from a formatted array and make any calls": the newest event first
pub data History (G : Geometry) (d : List ℕ) : List Event → State → Type 0 where
  start : (s t : State) → Step G d s (formatted (Ok tt)) t → History G d (formatted (Ok tt) ∷ []) t
  more : (es : List Event) (s : State) → History G d es s → (e : Event) (t : State) → Step G d s e t → History G d (e ∷ es) t

-- the event is a call that was refused
abbrev pub refused_call : Event → Bool
refused_call (formatted (Ok tt)) = false
refused_call (formatted (Err x)) = true
refused_call (was_read n o bytes (Ok tt)) = false
refused_call (was_read n o bytes (Err x)) = true
refused_call (written n o bytes (Ok tt)) = false
refused_call (written n o bytes (Err x)) = true
refused_call (audited (Ok x)) = false
refused_call (audited (Err x)) = true
refused_call (rebuilt (Ok x)) = false
refused_call (rebuilt (Err x)) = true
refused_call asked = false
refused_call lost = false
