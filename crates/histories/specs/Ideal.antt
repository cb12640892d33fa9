-- 00, demand 2: "what the last format and the accepted writes after it make where nothing is lost", in words that cite no call's
-- definition: the bytes last written, laid out by the layout and both parities alone. Assumes nothing.
use Rattle.std.specs.Prelude.{ℕ, ◌+◌, ◌-◌, ◌<◌, ◌≡◌, Bool, cond, ◌&&◌, List, [], ◌∷◌, eqb, leb, ltb, get_or, length}
use Rattle.geometry.specs.declared.Geometry.{Geometry}
use Rattle.geometry.specs.Geometry.{user_units_of, bytes_of}
use Rattle.cells.specs.Roles.{user_cell}
use Rattle.array.specs.Array.{cell_start}
use Rattle.consistent.specs.Consistent.{Consistent}
use Rattle.histories.specs.Histories.{Event, formatted, was_read, written, audited, rebuilt, asked, lost}
use Rattle.std.specs.Prelude.{Ok, Err}

-- a write of so many bytes at an offset of unit n holds byte j of unit m
abbrev pub holds : (n offset count m j : ℕ) → Bool
holds n offset count m j = eqb n m && (leb offset j && ltb j (offset + count))

-- what is last written at byte j of user unit m with this event, where it was b before it [j - o only where the write holds
-- byte j, so o ≤ j]
abbrev pub written_by : Event → (m j b : ℕ) → ℕ
written_by (formatted (Ok tt)) m j b = 0
written_by (formatted (Err x)) m j b = b
written_by (was_read n o bytes r) m j b = b
written_by (written n o bytes (Ok tt)) m j b = cond (holds n.0 o (length bytes) m j) (get_or bytes (j - o) 0) b
written_by (written n o bytes (Err x)) m j b = b
written_by (audited r) m j b = b
written_by (rebuilt r) m j b = b
written_by asked m j b = b
written_by lost m j b = b

-- byte j of user unit m as an accepted format or an accepted write last left it, from the newest event back
abbrev pub last_written : List Event → (m j : ℕ) → ℕ
last_written [] m j = 0
last_written (e ∷ es) m j = written_by e m j (last_written es m j)

-- the array with these user bytes and right parities. It sees no marks, no losses and no rebuild
pub record Ideal (G : Geometry) (d : List ℕ) (es : List Event) (a : List ℕ) : Type 0 where
  pub long : length a ≡ bytes_of G
  pub consistent : Consistent G d a
  pub user : (m : ℕ) → m < user_units_of G → (j : ℕ) → j < G.u → get_or a (cell_start G d (user_cell G m) + j) 0 ≡ last_written es m j
