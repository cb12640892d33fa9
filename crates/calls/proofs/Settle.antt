-- From what a contract says of the answer and of the lists at return to the six parts of `Refuses`. Assumes nothing.
use Prim.Native.Nat.{ℕ}
use mathlib.Core.Path.{◌≡◌, refl, sym, ap₂, ◌∙◌}
use mathlib.Core.List.{List, []}
use Rattle.refusal.specs.Refusal.{Outcome, refused, accepted, kept}
use Rattle.refusal.specs.Due.{Row, Exact}
use Rattle.refusal.proofs.Answer.{refused_accepted}
use Rattle.array.proofs.Kept.{kept_old}
use Rattle.calls.specs.Refuses.{numbers_of, nothing, always, Refuses}

-- a call in Rattle: the contract gives the outcome o, and what the lists hold by it
pub settle :
    {R A L H : Type 0} (applies : List ℕ) (rows : List Row) (outcome : R → Outcome A) (held : L → H) (before : L)
    (Allowed : R → L → Type 0) (o : Outcome A) (new : H) → numbers_of rows ≡ applies → Exact rows o →
    (r : R) × (l : L) × Allowed r l → ((r : R) (l : L) → Allowed r l → outcome r ≡ o) →
    ((r : R) (l : L) → Allowed r l → held l ≡ kept o new (held before)) →
    ((r s : R) → outcome r ≡ outcome s → r ≡ s) → Refuses (Unit {0}) applies rows outcome held before Allowed
settle applies rows outcome held before Allowed o new numbers E some says left same =
    record {
      takes = tt;
      numbers = numbers;
      answers = some;
      exact = λ r l a. rw (says r l a) E;
      stays = λ r l n p a e. left r l a ∙ sym (kept_old o n p new (held before) (sym (says r l a) ∙ e));
      one = λ r s l m a b. (same r s (says r l a ∙ sym (says s m b)), left r l a ∙ sym (left s m b));
    }

-- where no lent list may change
pub settle_alone :
    {R A : Type 0} (applies : List ℕ) (rows : List Row) (outcome : R → Outcome A) (Allowed : R → Type 0) (o : Outcome A) →
    numbers_of rows ≡ applies → Exact rows o → (r : R) × Allowed r → ((r : R) → Allowed r → outcome r ≡ o) →
    ((r s : R) → outcome r ≡ outcome s → r ≡ s) → Refuses (Unit {0}) applies rows outcome nothing tt (λ r l. Allowed r)
settle_alone applies rows outcome Allowed o numbers E some says same =
    record {
      takes = tt;
      numbers = numbers;
      answers = (some.0, tt, some.1);
      exact = λ r l a. rw (says r a) E;
      stays = λ r l n p a e. refl;
      one = λ r s l m a b. (same r s (says r a ∙ sym (says s b)), refl);
    }

-- a method that refuses nothing
pub settle_free :
    {R : Type 0} (Allowed : R → Type 0) → (r : R) × Allowed r → ((r s : R) → Allowed r → Allowed s → r ≡ s) →
    Refuses (Unit {0}) [] [] always nothing tt (λ r l. Allowed r)
settle_free Allowed some same =
    record {
      takes = tt;
      numbers = refl;
      answers = (some.0, tt, some.1);
      exact = λ r l a. free r;
      stays = λ r l n p a e. refl;
      one = λ r s l m a b. (same r s a b, refl);
    }
  where
    free : {R : Type 0} (r : R) → Exact [] (accepted r)
    free r =
        record { refusal = λ n p. (λ e. refused_accepted e refl, λ h. absurd h); acceptance = (λ h. tt, λ h. (r, refl)) }

-- two lists held by one outcome are a pair held by it
pub kept_both :
    {A X Y : Type 0} (o : Outcome A) (x x₀ : X) (y y₀ : Y) → ◌≡◌ {A = X × Y} (kept o x x₀, kept o y y₀) (kept o (x, y) (x₀, y₀))
kept_both (refused n p) x x₀ y y₀ = refl
kept_both (accepted a) x x₀ y y₀ = refl

-- two equations are one of pairs
pub pair : {X Y : Type 0} {x x₁ : X} {y y₁ : Y} → x ≡ x₁ → y ≡ y₁ → ◌≡◌ {A = X × Y} (x, y) (x₁, y₁)
pair e f = ap₂ (λ x y. (x, y)) e f
