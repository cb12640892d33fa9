-- Two results that a promise of `region` allows for the same arguments are one. Assumes nothing.
use mathlib.Core.Path.{sym, ◌∙◌}
use contract.Lifetimes.{Lfts}
use Rattle.promises.proofs.Settled.{Settled}
use Rattle.region.proofs.column_of_label.Reads as column-of-label
use Rattle.region.proofs.label_at.Reads as label_at
use Rattle.region.proofs.column_of_diagonal.Reads as column-of-diagonal
use Rattle.region.proofs.diagonal_at.Reads as diagonal-at
use Rattle.region.proofs.parity_column.Reads as parity-column
use Rattle.region.proofs.turned.Reads as turned

pub column_of_label_two_results : (κs : Lfts 0) → Settled (column-of-label.Post κs)
column_of_label_two_results κs a x y r s p q = p.0 ∙ sym q.0

pub label_at_two_results : (κs : Lfts 0) → Settled (label_at.Post κs)
label_at_two_results κs a x y r s p q = p.0 ∙ sym q.0

pub column_of_diagonal_two_results : (κs : Lfts 0) → Settled (column-of-diagonal.Post κs)
column_of_diagonal_two_results κs a x y r s p q = p.0 ∙ sym q.0

pub diagonal_at_two_results : (κs : Lfts 0) → Settled (diagonal-at.Post κs)
diagonal_at_two_results κs a x y r s p q = p.0 ∙ sym q.0

pub parity_column_two_results : (κs : Lfts 0) → Settled (parity-column.Post κs)
parity_column_two_results κs a x y r s p q = p.0 ∙ sym q.0

pub turned_two_results : (κs : Lfts 0) → Settled (turned.Post κs)
turned_two_results κs a x y r s p q = p.0 ∙ sym q.0
