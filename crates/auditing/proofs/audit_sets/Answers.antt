-- `auditing::audit_sets` meets its contract. Assumes nothing.
use Rattle.std.proofs.Common.{◌∙◌, arith}
use Rattle.geometry.proofs.Laws.{labels_bound, diagonals_bound}
use Rattle.auditing.proofs.Sets.{found_bad, tuple_found_lem}
use Rattle.auditing.proofs.audit_sets.Goals as goal

pub after-requires : goal.after-requires
after-requires c =
    omega (arith, labels_bound _ c.requires.sound.0, diagonals_bound _ c.requires.sound.0, found_bad _ _ _ _ _ c.audit_labels-outer.ensures, found_bad _ _ _ _ _ c.audit_diagonals-inner.ensures)

pub returns : goal.returns
returns c = c.after.ensures ∙ tuple_found_lem _ _ _ _ _ _ _ c.audit_labels-outer.ensures c.audit_diagonals-inner.ensures
