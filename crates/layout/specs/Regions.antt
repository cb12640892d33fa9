-- 01, "Design and geometry" and "The two parities": the regions of a design's tuples, each a part of a group. Assumes
-- nothing.
use Rattle.std.specs.Prelude.{ℕ, List, eqb}
use Rattle.counting.specs.Counting.{count_below, lowest, nth_below}
use Rattle.geometry.specs.declared.Geometry.{Geometry}
use Rattle.geometry.specs.Geometry.{tuples_of}
use Rattle.design.specs.Design.{group_at, names}
use Rattle.layout.specs.declared.Region.{Region}

-- part p of group a: "Let a region be one part of all g disks of a group"
abbrev pub region : (a p : ℕ) → Region
region a p = record { group = record { 0 = a }; part = record { 0 = p } }

-- "A group's part p belongs to the p-th row of the design, from 0, that names it": the part of group a for row t is the
-- number of earlier rows that name a
unfoldable pub part_of : Geometry → List ℕ → (a t : ℕ) → ℕ
part_of G d a t = count_below (names G.k d a) t

-- the row to which group a's part p belongs, and b where fewer rows name a
unfoldable pub tuple_of : Geometry → List ℕ → (a p : ℕ) → ℕ
tuple_of G d a p = nth_below (names G.k d a) (tuples_of G) p

-- the position of group a in row t, and k where the row does not name it
unfoldable pub position_of : Geometry → List ℕ → (a t : ℕ) → ℕ
position_of G d a t = lowest (λ (l : ℕ). eqb (group_at G.k d t l) a) G.k

-- "A tuple's regions have positions l = 0 to k-1 in the row's order": the region at position l of tuple t
abbrev pub region_of : Geometry → List ℕ → (t l : ℕ) → Region
region_of G d t l = region (group_at G.k d t l) (part_of G d (group_at G.k d t l) t)
