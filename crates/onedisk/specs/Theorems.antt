-- What is proved of an array with one disk lost, each under its sentence of 00 or 01: the statements alone. Assumes nothing.
use Rattle.std.specs.Prelude.{ℕ, ◌*◌, ◌≤◌, ◌<◌, ◌≡◌, List, length, take}
use contract.Lifetimes.{Lfts}
use Rattle.std.specs.Borrow.{Bor, MutBor}
use Rattle.geometry.specs.declared.Geometry.{Geometry}
use Rattle.geometry.specs.Geometry.{tuples_of, disks_of, units_of, bytes_of}
use Rattle.design.specs.Design.{Laid}
use Rattle.reaching.specs.Reach.{steps_of}
use Rattle.rebuilding.specs.Rebuild.{rebuilt_of}
use Rattle.sources.specs.Plan.{plan_of}
use Rattle.planning.specs.Plan.{triples_of}
use Rattle.onedisk.specs.OneDisk.{OneLost, disk_steps}
use Rattle.onedisk.specs.Sources.{byte_of, triples_in, source_sum, Shares}
use Rattle.onedisk.specs.Changes.{OneByteDiffers, Follows}
use Rattle.onedisk.specs.Calls.{Rebuilds, Plans, Ready, AsPlanned}
use Rattle.std.specs.Prelude.{Result, Ok}
use Rattle.refusal.specs.declared.Refusal.{Refusal}

-- "A missing unit whose outer set lacks only it becomes the XOR of the rest; otherwise, if its inner set lacks only it": with
-- disk x lost, each tuple that names its group restores the g units of x's column, row by row upwards, from their outer
-- sets and in row g-1 from the inner one; the other tuples restore nothing
abbrev pub ThePassesOfOneLostDisk : Type 0
ThePassesOfOneLostDisk =
    (G : Geometry) (d marks : List ℕ) (x : ℕ) → Laid G d → OneLost G marks x → (t : ℕ) → t < tuples_of G →
    steps_of G d marks t ≡ disk_steps G d x t

-- "With one disk lost and any bytes on the rest, its rebuilt bytes depend on exactly the units in a printed plan": each byte is
-- the XOR of those at its offset in the sources that the plan gives for its unit, as the array held them
abbrev pub EachRebuiltByteIsTheXorOfItsPlannedSources : Type 0
EachRebuiltByteIsTheXorOfItsPlannedSources =
    (G : Geometry) (d marks a : List ℕ) (x : ℕ) → Laid G d → OneLost G marks x → length a ≡ bytes_of G →
    (y j : ℕ) → y < units_of G → j < G.u →
    byte_of G (rebuilt_of G d marks a) x y j ≡ source_sum G a j y (triples_in (plan_of G d x))

-- ---- what the plan reads

-- the pairs of source disk and unit are pairwise different; "In every other group all disks but one give one unit and that one
-- gives none. Each surviving disk of its own group gives one unit per part."
abbrev pub EachDiskGivesItsShare : Type 0
EachDiskGivesItsShare =
    (G : Geometry) (d : List ℕ) → Laid G d → (x : ℕ) → x < disks_of G → Shares G x (triples_in (plan_of G d x))

-- ---- what a change does

-- "A byte changed in a planned unit changes one byte of the rebuilt disk; a byte changed in another unit changes none."
abbrev pub AChangedByteChangesWhatThePlanSays : Type 0
AChangedByteChangesWhatThePlanSays =
    (G : Geometry) (d marks a b : List ℕ) (x : ℕ) → Laid G d → OneLost G marks x → length a ≡ bytes_of G →
    (z w j e : ℕ) → OneByteDiffers G a b z w j e →
    Follows G x (triples_in (plan_of G d x)) (rebuilt_of G d marks a) (rebuilt_of G d marks b) z w j e

-- ---- over the contracts of the calls

-- "rebuild is accepted": only the number of the disk's units can be answered
abbrev pub OneLostDiskIsRebuilt : Type 0
OneLostDiskIsRebuilt =
    (κs : Lfts 3) (G : Geometry) (design : Bor (List ℕ)) (array marks : MutBor (List ℕ)) (x : ℕ) → Ready G design array marks x →
    (r : Result ℕ Refusal) (bytes left : MutBor (List ℕ)) → Rebuilds κs G design array marks r bytes left → r ≡ Ok (units_of G)

-- and the plan, of a list that is not shorter than 3·r(g-1)k: only r(g-1)k can be
abbrev pub TheLostDiskIsPlanned : Type 0
TheLostDiskIsPlanned =
    (κs : Lfts 2) (G : Geometry) (design : Bor (List ℕ)) (array marks : MutBor (List ℕ)) (x : ℕ) → Ready G design array marks x →
    (list : MutBor (List ℕ)) → 3 * triples_of G ≤ length list.now → (r : Result ℕ Refusal) (last : MutBor (List ℕ)) →
    Plans κs G design x list r last → r ≡ Ok (triples_of G)

-- demand 3: both calls are accepted, and what rebuild leaves of the lost disk is what the plan, as the plan call leaves it, says
abbrev pub Demand3 : Type 0
Demand3 =
    (κs κt : Lfts 3) (κp : Lfts 2) (G : Geometry) (design : Bor (List ℕ)) (array marks list : MutBor (List ℕ)) (x : ℕ) →
    Ready G design array marks x → 3 * triples_of G ≤ length list.now →
    (r : Result ℕ Refusal) (bytes left : MutBor (List ℕ)) → Rebuilds κs G design array marks r bytes left →
    (q : Result ℕ Refusal) (last : MutBor (List ℕ)) → Plans κp G design x list q last →
    (r ≡ Ok (units_of G)) × (q ≡ Ok (triples_of G))
    × AsPlanned κt G design array marks x bytes (triples_in (take (3 * triples_of G) last.now))
