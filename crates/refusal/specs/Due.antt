-- When a refusal is due, in words and with no test: the statements that the calls' answers are held against.
-- Assumes nothing.
use Rattle.std.specs.Prelude.{◌≡◌, ◌⊎◌, ◌↔◌, List, [], ◌∷◌, ℕ}
use Rattle.refusal.specs.Refusal.{Outcome, refused, accepted}

-- a row of 01's table at one call's arguments: its number, and what holds of a place where the row says so
pub record Row : Type 1 where
  pub number : ℕ
  pub holds : ℕ → Type 0

abbrev pub row : ℕ → (ℕ → Type 0) → Row
row n P = record { number = n; holds = P }

-- the row holds at no place
abbrev pub Silent : Row → Type 0
Silent x = (p : ℕ) → x.holds p → ⊥

-- n is due at p: row n applies, holds at p, and no earlier row that applies holds anywhere
abbrev pub Due : List Row → ℕ → ℕ → Type 0
Due [] n p = ⊥
Due (x ∷ xs) n p = ((n ≡ x.number) × x.holds p) ⊎ (Silent x × Due xs n p)

-- no row that applies holds anywhere
abbrev pub NoneDue : List Row → Type 0
NoneDue [] = Unit {0}
NoneDue (x ∷ xs) = Silent x × NoneDue xs

-- refused by n at p exactly if n is due at p, and accepted exactly if none is due
pub record Exact {A : Type 0} (rows : List Row) (o : Outcome A) : Type 0 where
  pub refusal : (n p : ℕ) → (o ≡ refused n p) ↔ Due rows n p
  pub acceptance : ((a : A) × (o ≡ accepted a)) ↔ NoneDue rows
