-- What a lent list holds at return, once it is known how the call answers. Assumes nothing.
use Prim.Native.Nat.{ℕ}
use mathlib.Core.Path.{◌≡◌, refl}
use Rattle.refusal.specs.Refusal.{Outcome, refused, accepted, kept}
use Rattle.refusal.proofs.Answer.{refused_accepted}

pub kept_old : {A X : Type 0} (o : Outcome A) (n p : ℕ) (new old : X) → o ≡ refused n p → old ≡ kept o new old
kept_old (refused m q) n p new old e = refl
kept_old (accepted a) n p new old e = absurd (refused_accepted e refl)

pub kept_new : {A X : Type 0} (o : Outcome A) (a : A) (new old : X) → o ≡ accepted a → new ≡ kept o new old
kept_new (refused n p) a new old e = absurd (refused_accepted refl e)
kept_new (accepted b) a new old e = refl
