-- `layout::Layout::cell_at` meets its contract. Assumes nothing.
use native.Mathlib.Omega.{arith}
use native.Mathlib.Nat.{div-le_self}
use mathlib.Core.Path.{sym, subst⁻¹, ◌∙◌}
use Rattle.cells.specs.declared.Cell.{Cell}
use Rattle.cells.specs.Ranges.{CellIn}
use Rattle.layout.proofs.Places.{cell_at_in}
use Rattle.layout.proofs.Found.{scan_small, entry_there, entry_high, cell_found}
use Rattle.layout.proofs.Layout.cell_at.Goals as goal

pub find_entry-requires : goal.find_entry-requires
find_entry-requires c = scan_small _ _ c.args.self.now.laid _ _ c.requires.0 c.requires.1

pub unwrap-at-requires : goal.unwrap-at-requires
unwrap-at-requires c = rw c.find_entry.ensures (entry_there _ _ c.args.self.now.laid _ _ c.requires.0 c.requires.1)

pub overflow_cast-result : goal.overflow_cast-result
overflow_cast-result c = let b = c.requires in
    let found = sym c.unwrap-at.ensures ∙ c.find_entry.ensures in
    omega (arith, entry_high _ _ c.args.self.now.laid _ _ b.0 b.1 _ found, div-le_self c.unwrap-at.result c.args.self.now.geometry.k)

pub returns : goal.returns
returns c = let b = c.requires in
    let found = cell_found _ _ c.args.self.now.laid _ _ b.0 b.1 _ (sym c.unwrap-at.ensures ∙ c.find_entry.ensures) in
    (found, subst⁻¹ (λ (x : Cell). CellIn c.args.self.now.geometry x) found (cell_at_in _ _ c.args.self.now.laid _ _ b.0 b.1))
