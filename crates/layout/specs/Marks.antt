-- 01, "Calls" (rebuild): "marks are one byte a disk, 0 present and 1 lost". Assumes nothing.
use Rattle.std.specs.Prelude.{ℕ, Bool, List, eqb, get_or}
use Rattle.geometry.specs.declared.Geometry.{Geometry}
use Rattle.layout.specs.declared.Place.{Place}

-- the unit at a place is lost: the one definition that asks it of the marks. A disk past their end is not lost (7 refuses such
-- marks). Marks for each unit (02, Ask 10) change its index alone, for which it takes the geometry
unfoldable pub lost : Geometry → (marks : List ℕ) → Place → Bool
lost G marks p = eqb (get_or marks p.disk.0 0) 1
