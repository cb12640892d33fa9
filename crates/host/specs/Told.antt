-- What a C caller is told: the two numbers at the front of every answer, in the words of the refusals' table.
-- Assumes nothing.
use Rattle.std.specs.Prelude.{ℕ, ◌<◌, ◌≡◌, ◌↔◌, List, [], ◌∷◌}
use Rattle.refusal.specs.Due.{Row, Due, NoneDue}

-- `refusal` is n and `place` is p, for n above 0, exactly if n is due at p; `refusal` is 0 exactly if none is due
pub record Told (rows : List Row) (refusal place : ℕ) : Type 0 where
  pub refused : (n p : ℕ) → Due rows n p ↔ ((0 < n) × (refusal ≡ n) × (place ≡ p))
  pub accepted : NoneDue rows ↔ (refusal ≡ 0)

-- no refusal has the number 0
abbrev pub Numbered : List Row → Type 0
Numbered [] = Unit {0}
Numbered (x ∷ xs) = (0 < x.number) × Numbered xs
