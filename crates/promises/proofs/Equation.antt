-- Two results that a promise of `equation1` allows for the same arguments are one. Assumes nothing.
use mathlib.Core.Path.{sym, ◌∙◌}
use contract.Lifetimes.{Lfts}
use Rattle.promises.proofs.Settled.{Settled}
use Rattle.equation1.proofs.design.Reads as design
use Rattle.equation1.proofs.geometry_f.Reads as geometry-f

pub design_two_results : (κs : Lfts 0) → Settled (design.Post κs)
design_two_results κs a x y r s p q = p ∙ sym q

pub geometry_f_two_results : (κs : Lfts 0) → Settled (geometry-f.Post κs)
geometry_f_two_results κs a x y r s p q = p ∙ sym q
