-- 00, demand 3: "A byte changed in a planned unit changes one byte of the rebuilt disk; a byte changed in another unit changes
-- none." Assumes nothing.
use Rattle.std.specs.Prelude.{ℕ, ◌+◌, ◌<◌, ◌≡◌, List, get_or, length}
use Rattle.std.specs.Int.Bits.{bit_xor}
use Rattle.geometry.specs.declared.Geometry.{Geometry}
use Rattle.geometry.specs.Geometry.{disks_of, units_of}
use Rattle.layout.specs.Places.{place}
use Rattle.array.specs.Array.{start_of}
use Rattle.onedisk.specs.Sources.{byte_of, Triple, IsTriple}

-- array b is array a but for one byte, at offset j of unit w of disk z, which differs by e
pub record OneByteDiffers (G : Geometry) (a b : List ℕ) (z w j e : ℕ) : Type 0 where
  pub disk : z < disks_of G
  pub unit : w < units_of G
  pub offset : j < G.u
  pub long : length b ≡ length a
  pub nonzero : e ≡ 0 → ⊥
  pub here : byte_of G b z w j ≡ bit_xor (byte_of G a z w j) e
  pub elsewhere : (i : ℕ) → (i ≡ start_of G (place z w) + j → ⊥) → get_or b i 0 ≡ get_or a i 0

-- disk x holds the same in both arrays
abbrev pub DiskStays : Geometry → (x : ℕ) → (a b : List ℕ) → Type 0
DiskStays G x a b = (y j : ℕ) → y < units_of G → j < G.u → byte_of G b x y j ≡ byte_of G a x y j

-- of disk x exactly one byte differs, at offset j of unit y, and by e
pub record DiskDiffers (G : Geometry) (x : ℕ) (a b : List ℕ) (y j e : ℕ) : Type 0 where
  pub here : byte_of G b x y j ≡ bit_xor (byte_of G a x y j) e
  pub changed : byte_of G b x y j ≡ byte_of G a x y j → ⊥
  pub elsewhere :
      (z i : ℕ) → z < units_of G → i < G.u → (z ≡ y → i ≡ j → ⊥) → byte_of G b x z i ≡ byte_of G a x z i

-- what a byte that differs by e, at offset j of unit w of disk z, does to disk x as rebuilt: in a unit of the plan; in a unit
-- that is in no triple; on disk x itself
pub record Follows (G : Geometry) (x : ℕ) (plan : List Triple) (a b : List ℕ) (z w j e : ℕ) : Type 0 where
  pub planned : (y : ℕ) → IsTriple y z w plan → DiskDiffers G x a b y j e
  pub unplanned : ((y : ℕ) → IsTriple y z w plan → ⊥) → DiskStays G x a b
  pub own : z ≡ x → DiskStays G x a b
