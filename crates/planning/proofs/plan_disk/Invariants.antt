-- `planning::plan_disk` meets its contract. Assumes nothing.
use Rattle.geometry.specs.Geometry.{parts_of}
use Rattle.sources.specs.Written.{part_plan}
use Rattle.sources.proofs.Stored.{Storing}
use Rattle.planning.proofs.plan_disk.Given as goal

abbrev pub invariant-loop-p : goal.invariant-loop-p
invariant-loop-p l =
    Storing (part_plan l.layout.geometry l.layout.design.now l.disk.0) (parts_of l.layout.geometry) l.initial.triples l.triples l.p
