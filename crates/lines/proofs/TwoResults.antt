-- "That two results allowed by it are equal is itself proved" (01), over the contract of `parse` itself. Assumes nothing.
use Prim.Native.Nat.{ℕ}
use mathlib.Core.Path.{◌≡◌, refl, sym, ◌∙◌}
use mathlib.Core.List.{List}
use contract.Lifetimes.{Lfts}
use denote.Ref.{Bor}
use Rattle.std.specs.Prelude.{Option}
use Rattle.lines.specs.declared.Question.{Question}
use Rattle.lines.specs.Line.{parsed}
use Rattle.lines.proofs.parse.Reads as parse

-- what the contract allows for a line
abbrev pub Allowed : Lfts 1 → Bor (List ℕ) → Option Question → Type 0
Allowed κs line r = parse.Post κs (line, tt) r (line, tt)

-- two answers for the same line are the same answer
pub two_results : (κs : Lfts 1) (line : Bor (List ℕ)) (r s : Option Question) → Allowed κs line r → Allowed κs line s → r ≡ s
two_results κs line r s p q = p ∙ sym q

-- some answer is allowed
pub some_result : (κs : Lfts 1) (line : Bor (List ℕ)) → (r : Option Question) × Allowed κs line r
some_result κs line = (parsed line.now, refl)
