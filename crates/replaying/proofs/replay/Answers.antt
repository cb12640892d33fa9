-- `replaying::replay` meets its contract: after each entry, the array as the steps up to there leave it. Assumes nothing.
use mathlib.Core.Path.{refl, sym, subst⁻¹, ◌∙◌}
use borrow.Author.Tests.{eqb-true}
use Rattle.replaying.specs.Steps.{RegionsApart}
use Rattle.replaying.proofs.Starts.{regions_apart}
use Rattle.replaying.proofs.Entries.{replayed_none, replayed_more}
use Rattle.replaying.proofs.replay.Goals as goal

pub returns-then-is_empty : goal.returns-then-is_empty
returns-then-is_empty c = replayed_none _ _ _ _ _ _ (eqb-true _ 0 (sym c.is_empty.ensures ∙ c.if-is_empty.true))

pub loop-entry-init : goal.loop-entry-init
loop-entry-init c = replayed_none _ _ _ _ _ _ refl

pub replay_step-requires-clause-sound : goal.replay_step-requires-clause-sound
replay_step-requires-clause-sound c =
    (c.args.layout.now.laid.sound, c.disk_bytes-disk.ensures, subst⁻¹ (RegionsApart _) c.region_starts.ensures (regions_apart _ _ c.args.layout.now.laid _ c.requires.tuple_bound))

pub loop-entry-preserved : goal.loop-entry-preserved
loop-entry-preserved c = replayed_more _ _ _ _ c.args.layout.now.laid c.requires.tuple_bound c.requires.log_in c.loop-entry-test.true c.region_starts.ensures c.loop-entry.invariant c.replay_step.ensures
