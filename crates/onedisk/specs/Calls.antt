-- 00, demand 3: the two calls, by the contracts of `rebuild` and `plan` themselves. Assumes nothing.
use Rattle.std.specs.Prelude.{ℕ, ◌<◌, ◌≡◌, List, length}
use contract.Lifetimes.{Lfts}
use Rattle.std.specs.Borrow.{Bor, MutBor}
use Rattle.refusal.specs.Due.{NoneDue}
use Rattle.geometry.specs.declared.Geometry.{Geometry}
use Rattle.geometry.specs.Geometry.{units_of}
use Rattle.array.specs.Reasons.{array_rows}
use Rattle.rebuilding.proofs.rebuild.Reads as rebuild
use Rattle.planning.proofs.plan.Reads as plan
use Rattle.onedisk.specs.OneDisk.{OneLost}
use Rattle.onedisk.specs.Sources.{byte_of, Triple, source_sum, Shares}
use Rattle.onedisk.specs.Changes.{OneByteDiffers, Follows}
use Rattle.std.specs.Prelude.{Result}
use Rattle.refusal.specs.declared.Refusal.{Refusal}

-- rebuild may answer r, and array and marks may then be held as `bytes` and `left`
abbrev pub Rebuilds :
    (κs : Lfts 3) → Geometry → (design : Bor (List ℕ)) (array marks : MutBor (List ℕ)) → Result ℕ Refusal → (bytes left : MutBor (List ℕ)) → Type 0
Rebuilds κs G design array marks r bytes left =
    rebuild.Post κs (G, (design, (array, (marks, tt)))) r (G, (design, (bytes, (left, tt))))

-- the plan call for disk x may answer r, and the list may then be held as `last`
abbrev pub Plans :
    (κs : Lfts 2) → Geometry → (design : Bor (List ℕ)) → (x : ℕ) → (list : MutBor (List ℕ)) → Result ℕ Refusal →
    (last : MutBor (List ℕ)) → Type 0
Plans κs G design x list r last =
    plan.Post κs (G, (design, (record { 0 = x }, (list, tt)))) r (G, (design, (record { 0 = x }, (last, tt))))

-- none of 2 to 8 refuses the array and its marks, and disk x alone is marked
pub record Ready (G : Geometry) (design : Bor (List ℕ)) (array marks : MutBor (List ℕ)) (x : ℕ) : Type 0 where
  pub none_due : NoneDue (array_rows G design.now (length array.now) marks.now)
  pub one_lost : OneLost G marks.now x

-- the array `bytes` that rebuild leaves, and the triples of the plan of disk x: each byte of the disk is the XOR of those at its
-- offset in its sources; what each disk gives; and what one changed byte does, if the changed array is rebuilt instead
pub record AsPlanned
    (κs : Lfts 3) (G : Geometry) (design : Bor (List ℕ)) (array marks : MutBor (List ℕ)) (x : ℕ) (bytes : MutBor (List ℕ)) (plan : List Triple) : Type 0
  where
    pub sums : (y j : ℕ) → y < units_of G → j < G.u → byte_of G bytes.now x y j ≡ source_sum G array.now j y plan
    pub shares : Shares G x plan
    pub changes :
        (z w j e : ℕ) (changed marks' : MutBor (List ℕ)) → OneByteDiffers G array.now changed.now z w j e →
        marks'.now ≡ marks.now → (r : Result ℕ Refusal) (bytes' left' : MutBor (List ℕ)) →
        Rebuilds κs G design changed marks' r bytes' left' → Follows G x plan bytes.now bytes'.now z w j e
