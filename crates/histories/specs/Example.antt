-- A history by numbers: three groups in pairs, three disks in a group, units of two bytes; so nine disks of twelve bytes.
-- Assumes nothing.
use Rattle.std.specs.Prelude.{ℕ, List, [], ◌∷◌}
use Rattle.geometry.specs.declared.Geometry.{Geometry}
use Rattle.geometry.specs.declared.UserUnit.{UserUnit}
use Rattle.histories.specs.Histories.{Event, formatted, was_read, written, audited, rebuilt, lost}
use Rattle.std.specs.Prelude.{Result, Ok, Err}
use Rattle.refusal.specs.declared.Refusal.{Refusal}
use Rattle.refusal.specs.declared.Refusal.TheVariants.{LeavesUnit, Marked}

abbrev pub pairs : Geometry
pairs = record { v = 3; k = 2; g = 3; u = 2 }

abbrev pub rows : List ℕ
rows = 0 ∷ 1 ∷ 0 ∷ 2 ∷ 1 ∷ 2 ∷ []

abbrev pub unit : ℕ → UserUnit
unit n = record { 0 = n }

-- refused: the range leaves the unit; disk 0 is marked
abbrev pub range_refused : Result (Unit {0}) Refusal
range_refused = Err LeavesUnit

abbrev pub mark_refused : Result (Unit {0}) Refusal
mark_refused = Err (Marked (record { 0 = 0 }))

-- the newest first. The three disks of group 0 are lost and hit again, with writes and reads between; then one disk of each group
abbrev pub events : List Event
events =
    audited (Ok (record { bad = 0; lowest = 0 }))
    ∷ rebuilt (Ok 18)
    ∷ written (unit 17) 1 (1 ∷ 2 ∷ []) range_refused
    ∷ lost
    ∷ was_read (unit 0) 0 (0 ∷ 5 ∷ []) (Ok tt)
    ∷ rebuilt (Ok 18)
    ∷ lost
    ∷ was_read (unit 0) 0 (8 ∷ 8 ∷ []) mark_refused
    ∷ written (unit 13) 0 (200 ∷ 7 ∷ []) (Ok tt)
    ∷ written (unit 0) 0 (1 ∷ []) mark_refused
    ∷ lost
    ∷ written (unit 0) 1 (5 ∷ []) (Ok tt)
    ∷ formatted (Ok tt)
    ∷ []

-- a line for each disk: user unit 0 is at 0/0, 3/0, 2/2, 5/2 and user unit 13 at 4/3, 7/3, 3/5, 6/5
abbrev pub left : List ℕ
left =
    0 ∷ 5 ∷ 0 ∷ 0 ∷ 0 ∷ 0 ∷ 0 ∷ 0 ∷ 0 ∷ 0 ∷ 0 ∷ 0
    ∷ 0 ∷ 0 ∷ 0 ∷ 0 ∷ 0 ∷ 0 ∷ 0 ∷ 0 ∷ 0 ∷ 0 ∷ 0 ∷ 0
    ∷ 0 ∷ 0 ∷ 0 ∷ 0 ∷ 0 ∷ 5 ∷ 0 ∷ 0 ∷ 0 ∷ 0 ∷ 0 ∷ 0
    ∷ 0 ∷ 5 ∷ 0 ∷ 0 ∷ 0 ∷ 0 ∷ 0 ∷ 0 ∷ 0 ∷ 0 ∷ 200 ∷ 7
    ∷ 0 ∷ 0 ∷ 0 ∷ 0 ∷ 0 ∷ 0 ∷ 200 ∷ 7 ∷ 0 ∷ 0 ∷ 0 ∷ 0
    ∷ 0 ∷ 0 ∷ 0 ∷ 0 ∷ 0 ∷ 5 ∷ 0 ∷ 0 ∷ 0 ∷ 0 ∷ 0 ∷ 0
    ∷ 0 ∷ 0 ∷ 0 ∷ 0 ∷ 0 ∷ 0 ∷ 0 ∷ 0 ∷ 0 ∷ 0 ∷ 200 ∷ 7
    ∷ 0 ∷ 0 ∷ 0 ∷ 0 ∷ 0 ∷ 0 ∷ 200 ∷ 7 ∷ 0 ∷ 0 ∷ 0 ∷ 0
    ∷ 0 ∷ 0 ∷ 0 ∷ 0 ∷ 0 ∷ 0 ∷ 0 ∷ 0 ∷ 0 ∷ 0 ∷ 0 ∷ 0
    ∷ []
