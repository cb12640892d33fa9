-- What is proved of the plan printer's text, each under its sentence of 01: the statements alone. Those over the call's own
-- contract are `two_results` and `some_result` (proofs/TwoResults.antt). Assumes nothing.
use Rattle.std.specs.Prelude.{ℕ, ◌*◌, ◌≤◌, ◌<◌, ◌≡◌, ◌⊎◌, ◌↔◌, List, [], ◌∷◌, length, take}
use Rattle.refusal.specs.Due.{Row, row, Due}
use Rattle.held.specs.Held.{table, held_design}
use Rattle.held.specs.Reasons.{HeldSet, NoSet}
use Rattle.sizes.specs.Reasons.{Allowed}
use Rattle.sources.specs.Plan.{plan_of}
use Rattle.decimals.specs.Decimal.{lines_of}
use Rattle.lines.specs.Theorems.{Form}
use Rattle.printing.specs.Shown.{refused_text, unread_text, shown}

-- "g or u not allowed" (01, row 6), with the held set of v and u = 1
abbrev pub NotAllowed : (v g : ℕ) → Type 0
NotAllowed v g = (s : List ℕ) × HeldSet table v s × (Allowed (length s) g 1 → ⊥)

-- the rows of 01's table that can be due: "no set held for v", "g or u not allowed", "disk .. number too high"
abbrev pub show_rows : (v g disk : ℕ) → List Row
show_rows v g disk =
    row 1 (λ (p : ℕ). (p ≡ 0) × NoSet v)
    ∷ row 6 (λ (p : ℕ). (p ≡ 0) × NotAllowed v g)
    ∷ row 9 (λ (p : ℕ). (p ≡ 0) × (v * g ≤ disk))
    ∷ []

-- "A refusal prints `refused`, a space and its number": exactly if the row of that number holds and no earlier row does
abbrev pub ARefusalIsPrintedExactlyIfDue : Type 0
ARefusalIsPrintedExactlyIfDue =
    (line : List ℕ) (v g disk n : ℕ) → Form line v g disk → (shown line ≡ refused_text n) ↔ Due (show_rows v g disk) n 0

-- no other refusal is printed
abbrev pub Only1_6And9ArePrinted : Type 0
Only1_6And9ArePrinted = (line : List ℕ) (n : ℕ) → shown line ≡ refused_text n → (n ≡ 1) ⊎ ((n ≡ 6) ⊎ (n ≡ 9))

-- "takes the held set of v and u = 1, and prints one triple a line": where none of them is due
abbrev pub ElseThePlanIsPrinted : Type 0
ElseThePlanIsPrinted =
    (line : List ℕ) (v g disk : ℕ) → Form line v g disk → (s : List ℕ) → HeldSet table v s → Allowed (length s) g 1 → disk < v * g →
    shown line ≡ lines_of (plan_of (record { v = v; k = length s; g = g; u = 1 }) (held_design v) disk)

-- "a line of another form prints `unread`", and no other line does
abbrev pub UnreadIsPrintedExactlyForAnotherForm : Type 0
UnreadIsPrintedExactlyForAnotherForm =
    (line : List ℕ) → (shown line ≡ unread_text) ↔ ((v g disk : ℕ) → Form line v g disk → ⊥)

-- the printer reads 31 bytes: what comes after them changes nothing
abbrev pub TheFirst31BytesAreEnough : Type 0
TheFirst31BytesAreEnough = (input : List ℕ) → shown (take 31 input) ≡ shown input
