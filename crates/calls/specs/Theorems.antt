-- What is proved of all public calls: the statements alone. Assumes nothing.
use Rattle.std.specs.Prelude.{ℕ, ◌≡◌}
use contract.Lifetimes.{Lfts}
use Rattle.geometry.specs.declared.Geometry.{Geometry}
use Rattle.geometry.specs.declared.Disk.{Disk}
use Rattle.geometry.specs.declared.Unit.{Unit as UnitNumber}
use Rattle.geometry.specs.declared.UserUnit.{UserUnit}
use Rattle.numbering.specs.Ranges.{UserIn}
use Rattle.cells.specs.declared.Role.{Role}
use Rattle.cells.specs.declared.Role.TheVariants.{User}
use Rattle.layout.specs.declared.Four.{Four}
use Rattle.fourfold.specs.Theorems.{SameDifference}
use Rattle.address.proofs.map.Reads as map
use Rattle.address.proofs.role.Reads as role
use Rattle.writing.proofs.write.Reads as write
use Rattle.calls.specs.Refuses.{Lent, LentMut}
use Rattle.calls.specs.Calls.{EveryCall, EveryFunctionForC}
use Rattle.calls.specs.Same.{SameAsTheCall}
use Rattle.calls.specs.Published.{unit_of, PublishedPlaces, PublishedRole, FourBack, Written}
use Rattle.std.specs.Prelude.{Result, Ok}
use Rattle.refusal.specs.declared.Refusal.{Refusal}

-- 00, demand 1: "Every public call takes any design list, sizes, marks and bytes, and ends. It refuses by a numbered reason
-- exactly when our rules give that reason. A refusal alters no lent byte."
abbrev pub Demand1 : Type 0
Demand1 = EveryCall × EveryFunctionForC

-- so what demands 2 and 3 say of the calls holds for a caller in C
abbrev pub TheFunctionsForCAreTheCalls : Type 0
TheFunctionsForCAreTheCalls = SameAsTheCall

-- 00, demand 2: "The place of each user block .. and both parities are those of the published layout"
abbrev pub TheMapGivesThePublishedPlaces : Type 0
TheMapGivesThePublishedPlaces =
    (κs : Lfts 1) (G : Geometry) (design : Lent) (t l i c : ℕ) (f : Four) → UserIn G t l i c →
    map.Post κs (G, (design, (unit_of G t l i c, tt))) (Ok f) (G, (design, (unit_of G t l i c, tt))) →
    PublishedPlaces G design.now t l i c f

-- and each user unit that is mapped is some label's
abbrev pub EachMappedUnitHasItsLabel : Type 0
EachMappedUnitHasItsLabel =
    (κs : Lfts 1) (G : Geometry) (design : Lent) (n : UserUnit) (f : Four) →
    map.Post κs (G, (design, (n, tt))) (Ok f) (G, (design, (n, tt))) →
    (t : ℕ) × (l : ℕ) × (i : ℕ) × (c : ℕ) × UserIn G t l i c × (n ≡ unit_of G t l i c)

-- "the way back from a disk unit to its role"
abbrev pub TheWayBackGivesThePublishedRoles : Type 0
TheWayBackGivesThePublishedRoles =
    (κs : Lfts 1) (G : Geometry) (design : Lent) (x : Disk) (y : UnitNumber) (ρ : Role) →
    role.Post κs (G, (design, (x, (y, tt)))) (Ok ρ) (G, (design, (x, (y, tt)))) →
    PublishedRole G design.now (record { disk = x; unit = y }) ρ

-- what the map names, the way back names again
abbrev pub TheWayBackNamesWhatTheMapNames : Type 0
TheWayBackNamesWhatTheMapNames =
    (κs : Lfts 1) (G : Geometry) (design : Lent) (t l i c : ℕ) (f : Four) → UserIn G t l i c →
    map.Post κs (G, (design, (unit_of G t l i c, tt))) (Ok f) (G, (design, (unit_of G t l i c, tt))) →
    FourBack κs G design t l i c f

-- and what the way back calls a user unit, the map places there
abbrev pub TheMapNamesWhatTheWayBackNames : Type 0
TheMapNamesWhatTheWayBackNames =
    (κs : Lfts 1) (G : Geometry) (design : Lent) (x : Disk) (y : UnitNumber) (n : UserUnit) →
    role.Post κs (G, (design, (x, (y, tt)))) (Ok (User n)) (G, (design, (x, (y, tt)))) →
    (r : Result Four Refusal) → map.Post κs (G, (design, (n, tt))) r (G, (design, (n, tt))) →
    (f : Four) × (r ≡ Ok f) × (f.user ≡ record { disk = x; unit = y })

-- "An accepted write puts the same byte difference into one data and three parity units and touches nothing else"
abbrev pub AnAcceptedWritePutsOneDifferenceIntoFourUnits : Type 0
AnAcceptedWritePutsOneDifferenceIntoFourUnits =
    (κs : Lfts 4) (G : Geometry) (design : Lent) (array : LentMut) (marks : Lent) (n : UserUnit) (offset : ℕ) (bytes : Lent)
    (array₁ : LentMut) →
    write.Post κs (G, (design, (array, (marks, (n, (offset, (bytes, tt))))))) (Ok tt)
    (G, (design, (array₁, (marks, (n, (offset, (bytes, tt))))))) →
    SameDifference G design.now array.now array₁.now n.0 offset bytes.now

-- and these are the four published places of the unit
abbrev pub AnAcceptedWriteGoesToThePublishedPlaces : Type 0
AnAcceptedWriteGoesToThePublishedPlaces =
    (κs : Lfts 4) (G : Geometry) (design : Lent) (array : LentMut) (marks : Lent) (n : UserUnit) (offset : ℕ) (bytes : Lent)
    (array₁ : LentMut) →
    write.Post κs (G, (design, (array, (marks, (n, (offset, (bytes, tt))))))) (Ok tt)
    (G, (design, (array₁, (marks, (n, (offset, (bytes, tt))))))) →
    Written G design.now array.now array₁.now n offset bytes.now
