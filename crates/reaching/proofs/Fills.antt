-- The flags before the first pass: how many there are, and the disks and the end of a region of a tuple. Assumes nothing.
use Prim.Native.Nat.{ℕ, zero, suc, ◌+◌, ◌*◌, ◌≤◌, ◌<◌}
use mathlib.Core.Path.{◌≡◌, ap, refl}
use mathlib.Core.Bool.{Bool}
use mathlib.Core.List.{List}
use native.Mathlib.Nat.{mul-le-mul_right, add-mul, mul_assoc}
use native.Mathlib.Omega.{arith}
use lib.ListN.{get_or, length, length-append}
use Rattle.geometry.specs.declared.Geometry.{Geometry}
use Rattle.geometry.specs.Geometry.{tuples_of, disks_of}
use Rattle.design.specs.Design.{group_at, Laid}
use Rattle.reaching.specs.Reach.{tuple_cells_of}
use Rattle.reaching.specs.State.{tests_of}

-- ---- the disks of a group

grouped : (G : Geometry) (d : List ℕ) (t l start group : ℕ) → start ≡ t * G.k → group ≡ get_or d (start + l) 0 → group ≡ group_at G.k d t l
unfolding group_at
grouped G d t l start group e a = rw e at a

in_disks : (G : Geometry) (a : ℕ) → a < G.v → a * G.g + G.g ≤ disks_of G
unfolding disks_of
in_disks G a h =
    let p : a + 1 ≤ G.v = omega arith in
    let b : (a + 1) * G.g ≤ G.v * G.g = mul-le-mul_right G.g p in
    omega (arith, add-mul a 1 G.g)

-- ---- lists of tests

pub length_tests : (f : ℕ → Bool) (n : ℕ) → length (tests_of f n) ≡ n
unfolding tests_of
length_tests f zero = refl
length_tests f (suc n) = let e : length (tests_of f n) ≡ n = length_tests f n in rw length-append (omega arith)

-- ---- a tuple

-- region l of a tuple ends in it
pub region_end : (G : Geometry) (l : ℕ) → l < G.k → l * (G.g * G.g) + G.g * G.g ≤ tuple_cells_of G
unfolding tuple_cells_of
region_end G l h =
    let p : l + 1 ≤ G.k = omega arith in
    let a : (l + 1) * (G.g * G.g) ≤ G.k * (G.g * G.g) = mul-le-mul_right (G.g * G.g) p in
    omega (arith, add-mul l 1 (G.g * G.g), mul_assoc G.k G.g G.g)

-- a region lies on the disks of its group
pub first_disk_is :
    (G : Geometry) (d : List ℕ) (t l start group : ℕ) → Laid G d → t < tuples_of G → l < G.k → start ≡ t * G.k
    → group ≡ get_or d (start + l) 0
    → (group * G.g ≡ group_at G.k d t l * G.g) × (group * G.g + G.g ≤ disks_of G)
first_disk_is G d t l start group w h q e a = (ap (λ (y : ℕ). y * G.g) same, few)
  where
    same : group ≡ group_at G.k d t l
    same = grouped G d t l start group e a

    few : group * G.g + G.g ≤ disks_of G
    few = in_disks G group (rw same (w.design.groups t l h q))
