-- 01, "Refusal numbers", for the call that fills a list with a held design: rows 1 and 3, in words. Assumes nothing.
use Rattle.std.specs.Prelude.{ℕ, ◌-◌, ◌*◌, ◌≡◌, ◌⊎◌, List, [], ◌∷◌, length}
use Rattle.refusal.specs.Due.{Row, row}
use Rattle.held.specs.Held.{Held, table}

-- some row of the table has v and the set s
abbrev pub HeldSet : List Held → ℕ → List ℕ → Type 0
HeldSet [] v s = ⊥
HeldSet (x ∷ xs) v s = ((x.v ≡ v) × (x.set ≡ s)) ⊎ HeldSet xs v s

-- "no set held for v"
abbrev pub NoSet : ℕ → Type 0
NoSet v = (s : List ℕ) → HeldSet table v s → ⊥

-- "list length not b·k": the set of v has k members, its design b rows, and the list has n entries [for 1 ≤ v and a set
-- that is not empty]
abbrev pub NotFilled : (v n : ℕ) → Type 0
NotFilled v n =
    (s : List ℕ) × (b : ℕ) × HeldSet table v s × (b * (length s * (length s - 1)) ≡ v * (v - 1)) × (n ≡ b * length s → ⊥)

-- rows 1 and 3
abbrev pub fill_rows : (v n : ℕ) → List Row
fill_rows v n = row 1 (λ (p : ℕ). (p ≡ 0) × NoSet v) ∷ row 3 (λ (p : ℕ). (p ≡ 0) × NotFilled v n) ∷ []
