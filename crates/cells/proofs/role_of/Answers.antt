-- `cells::role_of` meets its contract. Assumes nothing.
use Prim.Native.Nat.{ℕ}
use mathlib.Core.Path.{ap, sym, ◌∙◌}
use Rattle.cells.specs.declared.Role.TheVariants.{Outer, Inner}
use Rattle.cells.proofs.Roles.{role_inner, role_outer, role_user}
use Rattle.cells.proofs.Steps.{user_role}
use Rattle.cells.proofs.role_of.Goals as goal

pub returns-then-at-geometry : goal.returns-then-at-geometry
returns-then-at-geometry c =
    let a = c.args in
    ap (λ (j : ℕ). Inner a.at.tuple a.at.position j) c.diagonal_at.ensures.0
    ∙ sym (role_inner a.geometry a.at c.if-at-geometry.true)

pub returns-then-at-parity_position : goal.returns-then-at-parity_position
returns-then-at-parity_position c =
    let a = c.args in
    ap (λ (x : ℕ). Outer a.at.tuple a.at.row x) c.label_at-column.ensures.0
    ∙ sym (role_outer a.geometry a.at c.if-at-geometry.false (c.if-at-parity_position.true ∙ c.parity_position.ensures.0))

pub returns : goal.returns
returns c =
    let a = c.args in
    user_role a.geometry a.at _ _ _ c.label_at-column.ensures.0 c.data_number-region.ensures.0 c.user_number.ensures
    ∙ sym (role_user a.geometry a.at c.if-at-geometry.false
    (λ e. c.if-at-parity_position.false (e ∙ sym c.parity_position.ensures.0)))
