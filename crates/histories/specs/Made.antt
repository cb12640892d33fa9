-- 00, demand 2: "what the last format and the accepted writes after it make where nothing is lost". Assumes nothing.
use Rattle.std.specs.Prelude.{ℕ, ◌≡◌, List, [], ◌∷◌, replicate}
use Rattle.geometry.specs.declared.Geometry.{Geometry}
use Rattle.geometry.specs.Geometry.{disks_of}
use Rattle.histories.specs.Histories.{State, Event, formatted, was_read, written, audited, rebuilt, asked, lost, History}
use Rattle.std.specs.Prelude.{Ok, Err}

-- "the last format and the accepted writes after it"
abbrev pub format_and_writes : List Event → List Event
format_and_writes [] = []
format_and_writes (formatted (Ok tt) ∷ es) = formatted (Ok tt) ∷ []
format_and_writes (formatted (Err x) ∷ es) = format_and_writes es
format_and_writes (was_read n o bytes r ∷ es) = format_and_writes es
format_and_writes (written n o bytes (Ok tt) ∷ es) = written n o bytes (Ok tt) ∷ format_and_writes es
format_and_writes (written n o bytes (Err x) ∷ es) = format_and_writes es
format_and_writes (audited r ∷ es) = format_and_writes es
format_and_writes (rebuilt r ∷ es) = format_and_writes es
format_and_writes (asked ∷ es) = format_and_writes es
format_and_writes (lost ∷ es) = format_and_writes es

-- "where nothing is lost" they, by the calls' own contracts, leave the array a and no mark
pub record Made (G : Geometry) (d : List ℕ) (es : List Event) (a : List ℕ) : Type 0 where
  pub made : State
  pub history : History G d (format_and_writes es) made
  pub array : made.array ≡ a
  pub marks : made.marks ≡ replicate (disks_of G) 0
