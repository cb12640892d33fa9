-- `decimals::render`: the lines of the triples so far stand at the front of `out`. Assumes nothing.
use lib.ListN.{take}
use Rattle.std.specs.List.{flat_map}
use Rattle.decimals.proofs.Stores.{Put}
use Rattle.decimals.proofs.Lines.{line}
use Rattle.decimals.proofs.render.Given as goal

abbrev pub invariant-loop-x : goal.invariant-loop-x
invariant-loop-x l = Put l.initial.out (flat_map line (take l.x-index l.triples)) l.at l.out
