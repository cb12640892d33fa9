-- 01, "Calls" (plan): which units are read to restore each unit of a disk, and in which order. Assumes nothing.
use Rattle.std.specs.Prelude.{ℕ, zero, suc, ◌-◌, cond, List, [], ◌∷◌, ◌++◌, ltb, eqb}
use Rattle.geometry.specs.declared.Geometry.{Geometry}
use Rattle.geometry.specs.Geometry.{units_of}
use Rattle.cells.specs.declared.Cell.{Cell}
use Rattle.cells.specs.Cells.{label_of, diagonal_of}
use Rattle.cells.specs.Sets.{outer_member, inner_member}
use Rattle.layout.specs.Places.{place_of, cell_at}

-- f 0, then f 1, up to f (n - 1), one list after the other
unfoldable pub lists_of : (ℕ → List ℕ) → ℕ → List ℕ
lists_of f zero = []
lists_of f (suc n) = lists_of f n ++ f n

-- "the triple: unit restored, source disk, source unit"
abbrev pub triple : Geometry → List ℕ → (y : ℕ) → Cell → List ℕ
triple G d y x = y ∷ (place_of G d x).disk.0 ∷ (place_of G d x).unit.0 ∷ []

-- the triples of a set's units but the one restored, which is its q-th
abbrev pub others : Geometry → List ℕ → (y : ℕ) → (member : ℕ → Cell) → (q n : ℕ) → List ℕ
others G d y member q n = lists_of (λ (e : ℕ). cond (eqb e q) [] (triple G d y (member e))) n

-- those of unit y, at which cell x lies: "by position of the member (outer)", for a unit with a label, "or by row of the member
-- (inner)", for one of row g-1 [for 1 ≤ g]
unfoldable pub unit_plan : Geometry → List ℕ → (y : ℕ) → Cell → List ℕ
unit_plan G d y x =
    cond (ltb x.row (G.g - 1))
    (others G d y (outer_member G x.tuple.0 x.row (label_of G x)) x.position G.k)
    (others G d y (inner_member G x.tuple.0 x.position (diagonal_of G x)) x.row G.g)

-- of the first n units of a disk, "by its unit upwards"
unfoldable pub plan_below : Geometry → List ℕ → (disk n : ℕ) → List ℕ
plan_below G d disk n = lists_of (λ (y : ℕ). unit_plan G d y (cell_at G d disk y)) n

-- the plan of a disk
unfoldable pub plan_of : Geometry → List ℕ → (disk : ℕ) → List ℕ
plan_of G d disk = plan_below G d disk (units_of G)
