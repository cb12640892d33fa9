-- What a call over the disks' flags promises holds for all marks that the flags stand for. Assumes nothing.
use Rattle.std.specs.Prelude.{ℕ, Bool, List}
use Rattle.geometry.specs.declared.Geometry.{Geometry}
use Rattle.reaching.specs.Logged.{LostAs}

abbrev pub ForMarks : Geometry → (lost : List Bool) → (List ℕ → Type 0) → Type 0
ForMarks G lost Holds = (marks : List ℕ) → LostAs G marks lost → Holds marks
