-- What C hears is exact where what it is told is; and a refusal heard is one of the call. Assumes nothing.
use Prim.Native.Nat.{ℕ, zero, suc, ◌<◌}
use mathlib.Core.Path.{◌≡◌, refl, sym, ap, ap₂, ◌∙◌}
use mathlib.Core.List.{List}
use native.Mathlib.Omega.{arith}
use Rattle.refusal.specs.Refusal.{Outcome, refused, accepted, kept}
use Rattle.refusal.specs.Due.{Row, Exact}
use Rattle.refusal.proofs.Answer.{refused_accepted}
use Rattle.host.specs.Told.{Told}
use Rattle.host.proofs.Told.{number_of, place_of, Front}
use Rattle.calls.specs.Refuses.{numbers_of, nothing, Refuses}
use Rattle.calls.specs.Heard.{heard}

-- the number and the place of a refusal heard
refused_number : {R : Type 0} (r : R) (m q n p : ℕ) → heard (suc m) q r ≡ refused n p → (suc m ≡ n) × (q ≡ p)
refused_number r m q n p e = (ap number_of e, ap place_of e)

pub heard_exact : {R : Type 0} (rows : List Row) (m q : ℕ) (r : R) → Told rows m q → Exact rows (heard m q r)
heard_exact rows zero q r T =
    record {
      refusal =
          λ n p. (
            λ e. absurd (refused_accepted e refl),
            λ h. let t = (T.refused n p).0 h in let l : 0 < n = t.0 in let z : 0 ≡ n = t.1 in absurd (omega arith),
          );
      acceptance = (λ h. T.accepted.1 refl, λ h. (r, refl));
    }
heard_exact rows (suc m) q r T =
    record {
      refusal =
          λ n p. (
            λ e.
                let f = refused_number r m q n p e in
                let s : suc m ≡ n = f.0 in
                let l : 0 < n = omega arith in
                (T.refused n p).1 (l, f.0, f.1),
            λ h. let t = (T.refused n p).0 h in ap₂ (λ x y. refused x y) t.1 t.2,
          );
      acceptance = (
        λ h. absurd (refused_accepted refl h.1),
        λ h. let z : suc m ≡ 0 = T.accepted.0 h in absurd (omega arith),
      );
    }

-- a refusal is heard only where there is one, so the lists are the old ones
pub heard_old :
    {A R H : Type 0} (o : Outcome A) (m q n p : ℕ) (r : R) (new old : H) → Front o m q → heard m q r ≡ refused n p →
    kept o new old ≡ old
heard_old (refused x y) m q n p r new old f e = refl
heard_old (accepted a) zero q n p r new old f e = absurd (refused_accepted e refl)
heard_old (accepted a) (suc m) q n p r new old f e = let z : suc m ≡ 0 = f.number in absurd (omega arith)

-- a function for C: what it tells, what it leaves, and that two answers are one
pub settle_heard :
    {R A L H : Type 0} (applies : List ℕ) (rows : List Row) (refusal place : R → ℕ) (held : L → H) (before : L)
    (Allowed : R → L → Type 0) (o : Outcome A) (new : H) → numbers_of rows ≡ applies → (r : R) × (l : L) × Allowed r l →
    ((r : R) (l : L) → Allowed r l → Told rows (refusal r) (place r)) →
    ((r : R) (l : L) → Allowed r l → Front o (refusal r) (place r)) →
    ((r : R) (l : L) → Allowed r l → held l ≡ kept o new (held before)) →
    ((r s : R) (l m : L) → Allowed r l → Allowed s m → r ≡ s) →
    Refuses (Unit {0}) applies rows (λ (r : R). heard (refusal r) (place r) r) held before Allowed
settle_heard applies rows refusal place held before Allowed o new numbers some told front left same =
    record {
      takes = tt;
      numbers = numbers;
      answers = some;
      exact = λ r l a. heard_exact rows (refusal r) (place r) r (told r l a);
      stays = λ r l n p a e. left r l a ∙ heard_old o (refusal r) (place r) n p r new (held before) (front r l a) e;
      one = λ r s l m a b. (same r s l m a b, left r l a ∙ sym (left s m b));
    }

-- where no lent list may change
pub settle_heard_alone :
    {R : Type 0} (applies : List ℕ) (rows : List Row) (refusal place : R → ℕ) (Allowed : R → Type 0) →
    numbers_of rows ≡ applies → (r : R) × Allowed r → ((r : R) → Allowed r → Told rows (refusal r) (place r)) →
    ((r s : R) → Allowed r → Allowed s → r ≡ s) →
    Refuses (Unit {0}) applies rows (λ (r : R). heard (refusal r) (place r) r) nothing tt (λ r l. Allowed r)
settle_heard_alone applies rows refusal place Allowed numbers some told same =
    record {
      takes = tt;
      numbers = numbers;
      answers = (some.0, tt, some.1);
      exact = λ r l a. heard_exact rows (refusal r) (place r) r (told r a);
      stays = λ r l n p a e. refl;
      one = λ r s l m a b. (same r s a b, refl);
    }
