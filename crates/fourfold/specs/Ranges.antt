-- What the write relies on once it is checked: the four places, and where their ranges begin. Assumes nothing.
use Rattle.std.specs.Prelude.{ℕ, ◌+◌, List, [], ◌∷◌}
use Rattle.geometry.specs.declared.Geometry.{Geometry}
use Rattle.layout.specs.declared.Four.{Four}
use Rattle.layout.specs.Ranges.{PlaceIn}
use Rattle.layout.specs.Theorems.{FourApart}
use Rattle.array.specs.Array.{start_of}

-- four places of the geometry, on four different disks
pub record FourIn (G : Geometry) (f : Four) : Type 0 where
  pub user : PlaceIn G f.user
  pub outer : PlaceIn G f.outer
  pub inner : PlaceIn G f.inner
  pub both : PlaceIn G f.both
  pub apart : FourApart f

-- the runs beside the data's: "its outer parity, the inner parity of the data unit and the inner parity of the outer parity unit"
abbrev pub parity_runs : (q r s : ℕ) → List ℕ
parity_runs q r s = q ∷ r ∷ s ∷ []

-- where the range from offset o begins in the data unit
abbrev pub data_start : Geometry → Four → ℕ → ℕ
data_start G f o = start_of G f.user + o

-- and in the three parity units
abbrev pub parity_starts : Geometry → Four → ℕ → List ℕ
parity_starts G f o = parity_runs (start_of G f.outer + o) (start_of G f.inner + o) (start_of G f.both + o)
