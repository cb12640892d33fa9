-- "Refusals come exactly as tabled" (01), over the contracts of the calls themselves: 2 to 8; and what an accepted
-- format leaves. Assumes nothing.
use Prim.Native.Nat.{ℕ}
use mathlib.Core.Path.{◌≡◌, sym, ◌∙◌}
use mathlib.Core.List.{List}
use lib.ListN.{length}
use contract.Lifetimes.{Lfts}
use denote.Ref.{Bor, MutBor}
use Rattle.refusal.specs.Refusal.{verdict, outcome_of}
use Rattle.refusal.specs.Due.{Exact}
use Rattle.geometry.specs.declared.Geometry.{Geometry}
use Rattle.array.specs.Array.{formatted_array, formatted_marks}
use Rattle.array.specs.Rules.{array_rules}
use Rattle.array.specs.Reasons.{array_rows}
use Rattle.array.proofs.Kept.{kept_new}
use Rattle.array.proofs.Reasons.{array_exact}
use Rattle.array.proofs.TwoResults.{CheckAllowed, FormatAllowed}
use Rattle.std.specs.Prelude.{Result, Ok}
use Rattle.refusal.specs.declared.Refusal.{Refusal}

pub check_is_exact :
    (κs : Lfts 2) (G : Geometry) (design : Bor (List ℕ)) (bytes : ℕ) (marks : Bor (List ℕ)) (r : Result (Unit {0}) Refusal) →
    CheckAllowed κs G design bytes marks r → Exact (array_rows G design.now bytes marks.now) (outcome_of r)
check_is_exact κs G design bytes marks r p = rw p (array_exact G design.now bytes marks.now tt)

module _ (κs : Lfts 3) (G : Geometry) (design : Bor (List ℕ)) (array marks a m : MutBor (List ℕ)) where
  pub format_is_exact :
      (r : Result (Unit {0}) Refusal) → FormatAllowed κs G design array marks r a m →
      Exact (array_rows G design.now (length array.now) marks.now) (outcome_of r)
  format_is_exact r p = rw p.0 (array_exact G design.now (length array.now) marks.now tt)

  -- "Format: all array bytes become zero, all marks 0"
  pub format_accepted :
      FormatAllowed κs G design array marks (Ok tt) a m → (a.now ≡ formatted_array G) × (m.now ≡ formatted_marks G)
  format_accepted p =
      let o = verdict (array_rules G design.now (length array.now) marks.now) in (
        p.1 ∙ sym (kept_new o tt (formatted_array G) array.now (sym p.0)),
        p.2 ∙ sym (kept_new o tt (formatted_marks G) marks.now (sym p.0)),
      )
