-- An exact answer, laid out flat, tells what is due. Assumes nothing.
use Prim.Native.Nat.{ℕ, ◌<◌}
use mathlib.Core.Path.{◌≡◌, refl, ap, ◌∙◌}
use mathlib.Core.Logic.{inl, inr}
use mathlib.Core.List.{List, [], ◌∷◌}
use native.Mathlib.Omega.{arith}
use Rattle.refusal.specs.Refusal.{Outcome, refused, accepted}
use Rattle.refusal.specs.Due.{Row, Due, Exact}
use Rattle.sizes.specs.declared.Sizes.{Sizes}
use Rattle.layout.specs.declared.Four.{Four}
use Rattle.finding.specs.declared.Found.{Found}
use Rattle.cells.specs.declared.Role.{Role}
use Rattle.cells.specs.declared.Role.TheVariants.{User, Outer, Inner}
use Rattle.answers.specs.declared.Answer.{Answer}
use Rattle.answers.specs.declared.SizesAnswer.{SizesAnswer}
use Rattle.answers.specs.declared.MapAnswer.{MapAnswer}
use Rattle.answers.specs.declared.RoleAnswer.{RoleAnswer}
use Rattle.answers.specs.declared.AuditAnswer.{AuditAnswer}
use Rattle.answers.specs.declared.CountAnswer.{CountAnswer}
use Rattle.answers.specs.Flat.{flat_answer, flat_sizes, flat_map, flat_role, flat_role_of, flat_audit, flat_count}
use Rattle.host.specs.Told.{Told, Numbered}

-- the number and the place at the front of a flat answer
abbrev pub number_of : {A : Type 0} → Outcome A → ℕ
number_of (refused n p) = n
number_of (accepted a) = 0

abbrev pub place_of : {A : Type 0} → Outcome A → ℕ
place_of (refused n p) = p
place_of (accepted a) = 0

due_numbered : (rows : List Row) (n p : ℕ) → Numbered rows → Due rows n p → 0 < n
due_numbered [] n p N h = elim h [ ]
due_numbered (x ∷ xs) n p N (inl h) = let e : n ≡ x.number = h.0 in let l : 0 < x.number = N.0 in omega arith
due_numbered (x ∷ xs) n p N (inr h) = due_numbered xs n p N.1 h.1

pub told : {A : Type 0} (rows : List Row) (o : Outcome A) → Numbered rows → Exact rows o → Told rows (number_of o) (place_of o)
told rows (refused m q) N E =
    record {
      refused =
          λ n p. (
            λ h. let e = (E.refusal n p).1 h in (due_numbered rows n p N h, ap number_of e, ap place_of e),
            λ h. (E.refusal n p).0 (rw (h.1, h.2)),
          );
      accepted = (
        λ h. ap number_of (E.acceptance.1 h).1,
        λ z. let d : 0 < m = due_numbered rows m q N ((E.refusal m q).0 refl) in absurd (omega arith),
      );
    }
told rows (accepted a) N E =
    record {
      refused =
          λ n p. (
            λ h. let e = (E.refusal n p).1 h in (due_numbered rows n p N h, ap number_of e, ap place_of e),
            λ h. let l : 0 < n = h.0 in let z : 0 ≡ n = h.1 in absurd (omega arith),
          );
      accepted = (λ h. refl, λ z. E.acceptance.0 (a, refl));
    }

-- the two numbers at the front of an answer
pub record Front {A : Type 0} (o : Outcome A) (refusal place : ℕ) : Type 0 where
  pub number : refusal ≡ number_of o
  pub at : place ≡ place_of o

pub front_tells :
    {A : Type 0} (rows : List Row) (o : Outcome A) (refusal place : ℕ) → Numbered rows → Exact rows o → Front o refusal place →
    Told rows refusal place
front_tells rows o refusal place N E f = rw (f.number, f.at) (told rows o N E)

pub front_answer : (o : Outcome (Unit {0})) (r : Answer) → r ≡ flat_answer o → Front o r.refusal r.place
front_answer (refused n p) r e = record { number = ap (λ (x : Answer). x.refusal) e; at = ap (λ (x : Answer). x.place) e }
front_answer (accepted a) r e = record { number = ap (λ (x : Answer). x.refusal) e; at = ap (λ (x : Answer). x.place) e }

pub front_sizes : (o : Outcome Sizes) (r : SizesAnswer) → r ≡ flat_sizes o → Front o r.refusal r.place
front_sizes (refused n p) r e = record { number = ap (λ (x : SizesAnswer). x.refusal) e; at = ap (λ (x : SizesAnswer). x.place) e }
front_sizes (accepted a) r e = record { number = ap (λ (x : SizesAnswer). x.refusal) e; at = ap (λ (x : SizesAnswer). x.place) e }

pub front_map : (o : Outcome Four) (r : MapAnswer) → r ≡ flat_map o → Front o r.refusal r.place
front_map (refused n p) r e = record { number = ap (λ (x : MapAnswer). x.refusal) e; at = ap (λ (x : MapAnswer). x.place) e }
front_map (accepted a) r e = record { number = ap (λ (x : MapAnswer). x.refusal) e; at = ap (λ (x : MapAnswer). x.place) e }

front_of_role : (ρ : Role) → ((flat_role_of ρ).refusal ≡ 0) × ((flat_role_of ρ).place ≡ 0)
front_of_role (User n) = (refl, refl)
front_of_role (Outer t i c) = (refl, refl)
front_of_role (Inner t l j) = (refl, refl)

pub front_role : (o : Outcome Role) (r : RoleAnswer) → r ≡ flat_role o → Front o r.refusal r.place
front_role (refused n p) r e = record { number = ap (λ (x : RoleAnswer). x.refusal) e; at = ap (λ (x : RoleAnswer). x.place) e }
front_role (accepted ρ) r e =
    record {
      number = ap (λ (x : RoleAnswer). x.refusal) e ∙ (front_of_role ρ).0;
      at = ap (λ (x : RoleAnswer). x.place) e ∙ (front_of_role ρ).1;
    }

pub front_audit : (o : Outcome Found) (r : AuditAnswer) → r ≡ flat_audit o → Front o r.refusal r.place
front_audit (refused n p) r e = record { number = ap (λ (x : AuditAnswer). x.refusal) e; at = ap (λ (x : AuditAnswer). x.place) e }
front_audit (accepted a) r e = record { number = ap (λ (x : AuditAnswer). x.refusal) e; at = ap (λ (x : AuditAnswer). x.place) e }

pub front_count : (o : Outcome ℕ) (r : CountAnswer) → r ≡ flat_count o → Front o r.refusal r.place
front_count (refused n p) r e = record { number = ap (λ (x : CountAnswer). x.refusal) e; at = ap (λ (x : CountAnswer). x.place) e }
front_count (accepted a) r e = record { number = ap (λ (x : CountAnswer). x.refusal) e; at = ap (λ (x : CountAnswer). x.place) e }
