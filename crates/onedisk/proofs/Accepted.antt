-- Demand 3 over the contracts of `rebuild` and `plan`: with one disk lost both are accepted, and the lost disk as rebuild leaves
-- it is as the plan that is left says. Assumes nothing.
use Prim.Native.Nat.{ℕ, ◌*◌, ◌≤◌}
use mathlib.Core.Path.{◌≡◌, refl, sym, ap, subst, subst⁻¹, ◌∙◌}
use mathlib.Core.List.{List, ◌++◌}
use native.Mathlib.Nat.{one-mul}
use native.Mathlib.Omega.{arith}
use lib.Dec.{eqb}
use lib.ListN.{get_or, length, take, drop}
use lib.Seq.{take-append_seam}
use borrow.Author.Tests.{eq-eqb, eqb-true}
use contract.Lifetimes.{Lfts}
use denote.Ref.{Bor, MutBor}
use Rattle.counting.proofs.Laws.{count_one}
use Rattle.refusal.specs.Refusal.{accepted, verdict}
use Rattle.refusal.specs.Due.{NoneDue}
use Rattle.refusal.proofs.Answer.{accepted_append}
use Rattle.refusal.proofs.Exactness.{exact}
use Rattle.refusal.proofs.Same.{same_answer}
use Rattle.geometry.specs.declared.Geometry.{Geometry}
use Rattle.geometry.specs.Geometry.{units_of}
use Rattle.design.specs.Design.{Laid}
use Rattle.sizes.specs.Sizes.{sizes_rules}
use Rattle.array.specs.Rules.{array_rules}
use Rattle.array.specs.Reasons.{array_rows}
use Rattle.array.proofs.Fits.{ready}
use Rattle.array.proofs.Reasons.{array_rows_fit}
use Rattle.completing.specs.Theorems.{lost_disks}
use Rattle.rebuilding.specs.Rebuild.{rebuilt_of}
use Rattle.rebuilding.proofs.TwoResults.{rebuild_accepted}
use Rattle.rebuilding.proofs.Accepted.{three_accepted}
use Rattle.sources.specs.Plan.{plan_of}
use Rattle.planning.specs.Plan.{triples_of, planned}
use Rattle.planning.proofs.Bounds.{plan_length}
use Rattle.planning.proofs.Answers.{goes}
use Rattle.planning.proofs.TwoResults.{plan_accepted}
use Rattle.onedisk.specs.OneDisk.{OneLost}
use Rattle.onedisk.specs.Sources.{byte_of, Triple, triples_in, source_sum, Shares}
use Rattle.onedisk.specs.Changes.{Follows}
use Rattle.onedisk.specs.Calls.{Rebuilds, Plans, Ready}
use Rattle.onedisk.specs.Theorems.{OneLostDiskIsRebuilt, TheLostDiskIsPlanned, Demand3}
use Rattle.onedisk.proofs.Planned.{each_rebuilt_byte_is_the_XOR_of_its_planned_sources}
use Rattle.onedisk.proofs.Shares.{each_disk_gives_its_share}
use Rattle.onedisk.proofs.Changes.{a_changed_byte_changes_what_the_plan_says}
use Rattle.std.specs.Prelude.{Result, Ok}
use Rattle.refusal.specs.declared.Refusal.{Refusal}

-- one disk is counted
one_counted : (G : Geometry) (marks : List ℕ) (x : ℕ) → OneLost G marks x → lost_disks G marks ≡ 1
one_counted G marks x o =
    count_one (λ (y : ℕ). eqb (get_or marks y 0) 1) _ x o.disk (eq-eqb (get_or marks x 0) 1 o.lost)
    (λ y h e. o.only y h (eqb-true (get_or marks y 0) 1 e))

pub one_lost_disk_is_rebuilt : OneLostDiskIsRebuilt
one_lost_disk_is_rebuilt κs G design array marks x h r bytes left p =
    let one : lost_disks G marks.now ≡ 1 = one_counted G marks.now x h.one_lost in
    three_accepted κs G design array marks h.none_due r bytes left p (omega (arith, one))
    ∙ ap (λ (n : ℕ). Ok (n * units_of G)) one
    ∙ ap Ok (one-mul (units_of G))

-- none of 2 to 8 refuses
array_fine :
    (G : Geometry) (d : List ℕ) (bytes : ℕ) (marks : List ℕ) → NoneDue (array_rows G d bytes marks) →
    verdict (array_rules G d bytes marks) ≡ accepted tt
array_fine G d bytes marks none =
    ((exact (array_rules G d bytes marks) (array_rows G d bytes marks) tt (array_rows_fit G d bytes marks)).acceptance.1 none).1

sizes_fine :
    (G : Geometry) (d : List ℕ) (bytes : ℕ) (marks : List ℕ) → NoneDue (array_rows G d bytes marks) →
    verdict (sizes_rules G d) ≡ accepted tt
unfolding array_rules
sizes_fine G d bytes marks none = (accepted_append (sizes_rules G d) _ (array_fine G d bytes marks none)).0

pub the_lost_disk_is_planned : TheLostDiskIsPlanned
the_lost_disk_is_planned κs G design array marks x h list room r last p =
    same_answer r (Ok (triples_of G))
    (p.0
    ∙ sym (goes G design.now x list.now (sizes_fine G design.now (length array.now) marks.now h.none_due)
    h.one_lost.disk room (triples_of G) refl _ refl).0)

-- what an accepted rebuild leaves
rebuilt_is :
    (κs : Lfts 3) (G : Geometry) (design : Bor (List ℕ)) (array marks : MutBor (List ℕ)) (x : ℕ) → Ready G design array marks x →
    (r : Result ℕ Refusal) (bytes left : MutBor (List ℕ)) → Rebuilds κs G design array marks r bytes left →
    bytes.now ≡ rebuilt_of G design.now marks.now array.now
rebuilt_is κs G design array marks x h r bytes left p =
    (rebuild_accepted κs G design array marks (units_of G) bytes left
    (subst (λ (s : Result ℕ Refusal). Rebuilds κs G design array marks s bytes left)
    (one_lost_disk_is_rebuilt κs G design array marks x h r bytes left p) p)
    ).1

-- the plan that an accepted plan call leaves
plan_left :
    (κs : Lfts 2) (G : Geometry) (design : Bor (List ℕ)) (array marks : MutBor (List ℕ)) (x : ℕ) → Ready G design array marks x →
    (list : MutBor (List ℕ)) → 3 * triples_of G ≤ length list.now → (r : Result ℕ Refusal) (last : MutBor (List ℕ)) →
    Plans κs G design x list r last → take (3 * triples_of G) last.now ≡ plan_of G design.now x
unfolding planned
plan_left κs G design array marks x h list room r last p =
    let q =
    plan_accepted κs G design (record { 0 = x }) list (triples_of G) last
    (subst (λ (s : Result ℕ Refusal). Plans κs G design x list s last)
    (the_lost_disk_is_planned κs G design array marks x h list room r last p) p)
    in
    let laid : Laid G design.now =
    (ready G design.now (length array.now) marks.now
    (array_fine G design.now (length array.now) marks.now h.none_due)).laid
    in
    ap (take (3 * triples_of G)) q.1
    ∙ ap (λ (i : ℕ). take i (plan_of G design.now x ++ drop (3 * triples_of G) list.now))
    (sym (plan_length G design.now laid x h.one_lost.disk))
    ∙ take-append_seam (plan_of G design.now x) (drop (3 * triples_of G) list.now)

pub demand_3 : Demand3
demand_3 κs κt κp G design array marks list x h room r bytes left p q last pl =
    let here = ready G d (length array.now) marks.now (array_fine G d (length array.now) marks.now h.none_due) in
    let is : bytes.now ≡ rebuilt_of G d marks.now array.now = rebuilt_is κs G design array marks x h r bytes left p in
    let plan : triples_in (take (3 * triples_of G) last.now) ≡ triples_in (plan_of G d x) =
    ap triples_in (plan_left κp G design array marks x h list room q last pl)
    in (
      one_lost_disk_is_rebuilt κs G design array marks x h r bytes left p,
      the_lost_disk_is_planned κp G design array marks x h list room q last pl,
      record {
        sums = λ y j hy hj.
            ap (λ (b : List ℕ). byte_of G b x y j) is
            ∙ each_rebuilt_byte_is_the_XOR_of_its_planned_sources G d marks.now array.now x here.laid h.one_lost
            here.whole y j hy hj
            ∙ ap (source_sum G array.now j y) (sym plan);
        shares = subst⁻¹ (Shares G x) plan (each_disk_gives_its_share G d here.laid x h.one_lost.disk);
        changes = λ z w j e changed marks' c same s bytes' left' p'.
            let again : Ready G design changed marks' x =
            record {
              none_due =
                  subst⁻¹ (λ (m : List ℕ). NoneDue (array_rows G d (length changed.now) m)) same
                  (subst⁻¹ (λ (n : ℕ). NoneDue (array_rows G d n marks.now)) c.long h.none_due);
              one_lost = subst⁻¹ (λ (m : List ℕ). OneLost G m x) same h.one_lost;
            }
            in
            let is' : bytes'.now ≡ rebuilt_of G d marks.now changed.now =
            rebuilt_is κt G design changed marks' x again s bytes' left' p'
            ∙ ap (λ (m : List ℕ). rebuilt_of G d m changed.now) same
            in
            subst⁻¹ (λ (ts : List Triple). Follows G x ts bytes.now bytes'.now z w j e) plan
            (subst⁻¹ (λ (b : List ℕ). Follows G x (triples_in (plan_of G d x)) b bytes'.now z w j e) is
            (subst⁻¹
            (λ (b : List ℕ). Follows G x (triples_in (plan_of G d x)) (rebuilt_of G d marks.now array.now) b z w j e) is'
            (a_changed_byte_changes_what_the_plan_says G d marks.now array.now changed.now x here.laid
            h.one_lost here.whole z w j e c)));
      },
    )
  where
    d : List ℕ
    d = design.now
