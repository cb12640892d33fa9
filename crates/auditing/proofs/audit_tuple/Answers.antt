-- `auditing::audit_tuple` meets its contract. Assumes nothing.
use Rattle.std.proofs.Common.{sym, subst}
use Rattle.sets.specs.Starts.{RegionsFit}
use Rattle.sets.proofs.Starts.{regions_fit}
use Rattle.auditing.proofs.audit_tuple.Goals as goal

pub audit_sets-requires-clause-sound : goal.audit_sets-requires-clause-sound
audit_sets-requires-clause-sound c =
    let laid = c.args.layout.now.laid in
    let long = c.requires.array_len in
    (laid.sound, long.0, subst (RegionsFit c.args.layout.now.geometry) (sym c.region_starts.ensures) (regions_fit _ _ _ laid long.1))
