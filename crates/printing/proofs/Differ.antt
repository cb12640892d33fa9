-- The texts tell the answers apart: that of a refusal its number, and a refusal, a plan and an unread line. Assumes nothing.
use Prim.Native.Nat.{ℕ, ◌+◌, ◌-◌, ◌*◌, ◌≤◌}
use mathlib.Core.Path.{◌≡◌, refl, ap, ◌∙◌}
use mathlib.Core.List.{List, [], ◌∷◌, ◌++◌, append_assoc}
use native.Mathlib.Omega.{arith}
use lib.ListN.{length, get_or, drop}
use Rattle.decimals.specs.Decimal.{Digits, decimal, decimal_of, followed, line_end, line_of, lines_of}
use Rattle.decimals.proofs.Laws.{digit_bounds, from_append, from_cons, from_none, reads_as}
use Rattle.printing.specs.Shown.{refused_text, unread_text}

followed_value : (n : ℕ) → decimal (followed n line_end) ≡ n * 10
unfolding followed
followed_value n =
    from_append 0 (decimal_of n) (line_end ∷ [])
    ∙ from_cons (decimal (decimal_of n)) line_end []
    ∙ from_none (decimal (decimal_of n) * 10 + (line_end - 48))
    ∙ omega (arith, (reads_as n).2)

pub refused_number : (m n : ℕ) → refused_text m ≡ refused_text n → m ≡ n
unfolding refused_text
refused_number m n e =
    let f : decimal (followed m line_end) ≡ decimal (followed n line_end) = ap (λ (xs : List ℕ). decimal (drop 8 xs)) e in
    omega (arith, followed_value m, followed_value n, f)

-- the first byte
abbrev lead : List ℕ → ℕ
lead xs = get_or xs 0 0

refused_lead : (n : ℕ) → lead (refused_text n) ≡ 114
unfolding refused_text
refused_lead n = refl

digit_lead : (xs ys : List ℕ) → Digits xs → 1 ≤ length xs → lead (xs ++ ys) ≤ 57
digit_lead [] ys d h = absurd (omega arith)
digit_lead (x ∷ xs) ys d h = (digit_bounds x d.0).1

lines_lead : (plan : List ℕ) → lead (lines_of plan) ≤ 57
unfolding lines_of line_of followed
lines_lead [] = omega arith
lines_lead (x ∷ []) = omega arith
lines_lead (x ∷ y ∷ []) = omega arith
lines_lead (x ∷ y ∷ z ∷ plan) =
    rw (append_assoc, append_assoc, append_assoc) (digit_lead (decimal_of x) _ (reads_as x).0 (reads_as x).1)

pub refused_unread : (n : ℕ) → refused_text n ≡ unread_text → ⊥
refused_unread n e = let f = ap lead e in omega (arith, refused_lead n, f)

pub lines_refused : (plan : List ℕ) (n : ℕ) → lines_of plan ≡ refused_text n → ⊥
lines_refused plan n e = let f = ap lead e in omega (arith, refused_lead n, f, lines_lead plan)

pub lines_unread : (plan : List ℕ) → lines_of plan ≡ unread_text → ⊥
lines_unread plan e = let f = ap lead e in omega (arith, f, lines_lead plan)
