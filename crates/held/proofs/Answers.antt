-- The answers of the call that fills a list, case by case. Assumes nothing.
use Prim.Native.Nat.{ℕ, ◌*◌}
use mathlib.Core.Path.{◌≡◌, refl}
use mathlib.Core.List.{List}
use lib.ListN.{length}
use borrow.Author.Tests.{eq-eqb, ne_eqb}
use Rattle.counting.specs.Lists.{list_of}
use Rattle.refusal.specs.Refusal.{Outcome, refused, accepted, verdict, kept}
use Rattle.held.specs.Held.{set_for, held_design, fill_rules}
use Rattle.held.specs.Developed.{developed}
use Rattle.held.proofs.Table.{held_difference}

-- what the call's contract says of an answer o and the list at return
abbrev pub Answered : (v : ℕ) (d : List ℕ) → Outcome (Unit {0}) → List ℕ → Type 0
Answered v d o e =
    (o ≡ verdict (fill_rules v (length d))) × (e ≡ kept (verdict (fill_rules v (length d))) (held_design v) d)

pub not_held : (v : ℕ) (d : List ℕ) → length (set_for v) ≡ 0 → Answered v d (refused 1 0) d
unfolding fill_rules
not_held v d h = rw (eq-eqb (length (set_for v)) 0 h) (refl, refl)

module _ (v : ℕ) (d : List ℕ) (h : length (set_for v) ≡ 0 → ⊥) where
  pub other_length : (length d ≡ v * length (set_for v) → ⊥) → Answered v d (refused 3 0) d
  unfolding fill_rules
  other_length q =
      rw (ne_eqb (length (set_for v)) 0 h, (held_difference v h).rows, ne_eqb (length d) (v * length (set_for v)) q) (refl, refl)

  pub fills :
      (e : List ℕ) → length d ≡ v * length (set_for v) → e ≡ list_of (developed v (set_for v)) (v * length (set_for v)) →
      Answered v d (accepted tt) e
  unfolding fill_rules held_design
  fills e q y =
      rw (ne_eqb (length (set_for v)) 0 h, (held_difference v h).rows, eq-eqb (length d) (v * length (set_for v)) q) (refl, y)
