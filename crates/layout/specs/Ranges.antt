-- Which regions and places a geometry has: 01, "Design and geometry". Assumes nothing.
use Rattle.std.specs.Prelude.{ℕ, ◌≤◌, ◌<◌}
use Rattle.geometry.specs.declared.Geometry.{Geometry}
use Rattle.geometry.specs.Geometry.{tuples_of, disks_of, units_of}
use Rattle.layout.specs.declared.Place.{Place}
use Rattle.layout.specs.declared.Region.{Region}

-- position l of tuple t: "A tuple's regions have positions l = 0 to k-1"
pub record RegionIn (G : Geometry) (t l : ℕ) : Type 0 where
  pub tuple : t < tuples_of G
  pub position : l < G.k

-- group and part are small enough to be multiplied by g
pub record SmallRegion (x : Region) : Type 0 where
  pub group : x.group.0 ≤ 65535
  pub part : x.part.0 ≤ 65535

-- the disks are numbered below v·g, the units of a disk below r·g
pub record PlaceIn (G : Geometry) (p : Place) : Type 0 where
  pub disk : p.disk.0 < disks_of G
  pub unit : p.unit.0 < units_of G
