-- Two results that a promise of `layout` allows for the same arguments are one. Assumes nothing.
use mathlib.Core.Path.{sym, ◌∙◌}
use contract.Lifetimes.{Lfts}
use Rattle.promises.proofs.Settled.{Settled}
use Rattle.layout.proofs.row_start.Reads as row-start
use Rattle.layout.proofs.Layout.region_of.Reads as region-of
use Rattle.layout.proofs.place_in.Reads as place_in
use Rattle.layout.proofs.Layout.place_of.Reads as place_of
use Rattle.layout.proofs.Layout.pair_of.Reads as pair_of
use Rattle.layout.proofs.Layout.four_of.Reads as four-of
use Rattle.layout.proofs.Layout.cell_at.Reads as Cell-at
use Rattle.layout.proofs.Layout.role_at.Reads as role-at
use Rattle.layout.proofs.scan.count_entries.Reads as count_entries
use Rattle.layout.proofs.scan.find_entry.Reads as find-entry

pub row_start_two_results : (κs : Lfts 0) → Settled (row-start.Post κs)
row_start_two_results κs a x y r s p q = p.0 ∙ sym q.0

pub region_of_two_results : (κs : Lfts 2) → Settled (region-of.Post κs)
region_of_two_results κs a x y r s p q = p.0 ∙ sym q.0

pub place_in_two_results : (κs : Lfts 0) → Settled (place_in.Post κs)
place_in_two_results κs a x y r s p q = p ∙ sym q

pub place_of_two_results : (κs : Lfts 2) → Settled (place_of.Post κs)
place_of_two_results κs a x y r s p q = p ∙ sym q

pub pair_of_two_results : (κs : Lfts 2) → Settled (pair_of.Post κs)
pair_of_two_results κs a x y r s p q = p ∙ sym q

pub four_of_two_results : (κs : Lfts 2) → Settled (four-of.Post κs)
four_of_two_results κs a x y r s p q = p ∙ sym q

pub cell_at_two_results : (κs : Lfts 2) → Settled (Cell-at.Post κs)
cell_at_two_results κs a x y r s p q = p.0 ∙ sym q.0

pub role_at_two_results : (κs : Lfts 2) → Settled (role-at.Post κs)
role_at_two_results κs a x y r s p q = p ∙ sym q

pub count_entries_two_results : (κs : Lfts 1) → Settled (count_entries.Post κs)
count_entries_two_results κs a x y r s p q = p ∙ sym q

pub find_entry_two_results : (κs : Lfts 1) → Settled (find-entry.Post κs)
find_entry_two_results κs a x y r s p q = p ∙ sym q
