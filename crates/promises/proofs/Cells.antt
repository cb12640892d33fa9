-- Two results that a promise of `cells` allows for the same arguments are one. Assumes nothing.
use mathlib.Core.Path.{sym, ◌∙◌}
use contract.Lifetimes.{Lfts}
use Rattle.promises.proofs.Settled.{Settled}
use Rattle.cells.proofs.outer_member.Reads as outer-member
use Rattle.cells.proofs.inner_parity.Reads as inner-parity
use Rattle.cells.proofs.inner_of.Reads as inner_of
use Rattle.cells.proofs.data_cell.Reads as data-cell
use Rattle.cells.proofs.parity_cell.Reads as parity-cell
use Rattle.cells.proofs.user_cell.Reads as user-cell
use Rattle.cells.proofs.user_outer.Reads as user_outer
use Rattle.cells.proofs.role_of.Reads as role-of

pub outer_member_two_results : (κs : Lfts 0) → Settled (outer-member.Post κs)
outer_member_two_results κs a x y r s p q = p.0 ∙ sym q.0

pub inner_parity_two_results : (κs : Lfts 0) → Settled (inner-parity.Post κs)
inner_parity_two_results κs a x y r s p q = p.0 ∙ sym q.0

pub inner_of_two_results : (κs : Lfts 0) → Settled (inner_of.Post κs)
inner_of_two_results κs a x y r s p q = p.0 ∙ sym q.0

pub data_cell_two_results : (κs : Lfts 0) → Settled (data-cell.Post κs)
data_cell_two_results κs a x y r s p q = p.0 ∙ sym q.0

pub parity_cell_two_results : (κs : Lfts 0) → Settled (parity-cell.Post κs)
parity_cell_two_results κs a x y r s p q = p.0 ∙ sym q.0

pub user_cell_two_results : (κs : Lfts 0) → Settled (user-cell.Post κs)
user_cell_two_results κs a x y r s p q = p.0 ∙ sym q.0

pub user_outer_two_results : (κs : Lfts 0) → Settled (user_outer.Post κs)
user_outer_two_results κs a x y r s p q = p.0 ∙ sym q.0

pub role_of_two_results : (κs : Lfts 0) → Settled (role-of.Post κs)
role_of_two_results κs a x y r s p q = p ∙ sym q
