-- The answer of 2 to 6 from that of 2 to 5 and the test of 6. Assumes nothing.
use Prim.Native.Nat.{ℕ}
use mathlib.Core.Path.{◌≡◌, ◌∙◌}
use mathlib.Core.Bool.{true, false, not}
use mathlib.Core.List.{List, [], ◌∷◌}
use Rattle.counting.proofs.Bools.{not_is_true, not_is_false}
use Rattle.refusal.specs.Refusal.{Rule, rule, refused, accepted, answer, verdict}
use Rattle.refusal.proofs.Answer.{first, next, skip, stop, refused_at, accepted_at}
use Rattle.geometry.specs.declared.Geometry.{Geometry}
use Rattle.geometry.specs.Geometry.{sizes_allowed}
use Rattle.checking.specs.Rules.{design_rules}
use Rattle.sizes.specs.Sizes.{sizes_rules}

-- row 6
abbrev sixth : Geometry → Rule
sixth G = rule 6 (not (sizes_allowed G.k G.g G.u)) 0

module _ {A : Type 0} (G : Geometry) (d : List ℕ) (a : A) where
  -- refused by 2 to 5
  pub earlier : (n p : ℕ) → verdict (design_rules G.v G.k d) ≡ refused n p → answer (sizes_rules G d) a ≡ refused n p
  unfolding sizes_rules
  earlier n p e = stop (design_rules G.v G.k d) (sixth G ∷ []) a n p e

  -- refused by 6
  pub six : verdict (design_rules G.v G.k d) ≡ accepted tt → sizes_allowed G.k G.g G.u ≡ false → answer (sizes_rules G d) a ≡ refused 6 0
  unfolding sizes_rules
  six e h =
      skip (design_rules G.v G.k d) (sixth G ∷ []) a e ∙ first (sixth G) [] a (not_is_true (sizes_allowed G.k G.g G.u) h)

  -- not refused
  pub fine : verdict (design_rules G.v G.k d) ≡ accepted tt → sizes_allowed G.k G.g G.u ≡ true → answer (sizes_rules G d) a ≡ accepted a
  unfolding sizes_rules
  fine e h =
      skip (design_rules G.v G.k d) (sixth G ∷ []) a e ∙ next (sixth G) [] a (not_is_false (sizes_allowed G.k G.g G.u) h)

  -- the answer at a value from the check's
  pub refused_sizes : (n p : ℕ) → verdict (sizes_rules G d) ≡ refused n p → answer (sizes_rules G d) a ≡ refused n p
  refused_sizes n p e = refused_at (sizes_rules G d) tt a n p e

  pub accepted_sizes : verdict (sizes_rules G d) ≡ accepted tt → answer (sizes_rules G d) a ≡ accepted a
  accepted_sizes e = accepted_at (sizes_rules G d) tt tt a e
