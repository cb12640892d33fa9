-- `decimals::render` meets its contract: one line more at each turn. Assumes nothing.
use mathlib.Core.Path.{◌≡◌, sym, ap, ◌∙◌}
use native.Mathlib.Omega.{arith}
use mathlib.Core.List.{[]}
use lib.ListN.{length, take}
use lib.Seq.{take_all}
use Rattle.std.proofs.lemmas.List.Folds.{length-flat_map-take}
use Rattle.std.specs.List.{flat_map}
use Rattle.decimals.specs.Decimal.{lines_of}
use Rattle.decimals.proofs.Stores.{room_left, put_append}
use Rattle.decimals.proofs.Lines.{line, line_more, lines_are}
use Rattle.decimals.proofs.render.Goals as goal

pub put_line-at-requires : goal.put_line-at-requires
put_line-at-requires c =
    let ts = c.as_chunks.result.0.now in
    let i = c.loop-x.x-index in
    room_left _ _ _ _ _ c.loop-x.invariant
    (omega (arith, length-flat_map-take line ts i [] c.loop-x-test.true, ap length (lines_are c.args.list.now), ap (λ xs. length (flat_map line xs)) c.as_chunks.ensures.front))

pub loop-x-preserved : goal.loop-x-preserved
loop-x-preserved c =
    rw (line_more c.as_chunks.result.0.now c.loop-x.x-index c.loop-x-test.true)
    (put_append _ _ _ _ _ _ _ c.loop-x.invariant c.put_line-at.ensures)

pub returns : goal.returns
returns c =
    let ts = c.as_chunks.result.0.now in
    let all : lines_of c.args.list.now ≡ flat_map line (take c.loop-x.x-index ts) =
    lines_are c.args.list.now
    ∙ ap (flat_map line) (sym c.as_chunks.ensures.front ∙ sym (take_all c.loop-x.x-index ts c.loop-x-test.false)) in
    rw all c.loop-x.invariant
