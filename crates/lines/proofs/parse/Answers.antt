-- `lines::parse` meets its contract: v, then g, then disk. Assumes nothing.
use Rattle.std.proofs.Common.{◌∙◌}
use Rattle.lines.proofs.Answers.{no_v, unread_g, unread_disk, read_all}
use Rattle.lines.proofs.parse.Goals as goal

pub returns-in_err-v : goal.returns-in_err-v
returns-in_err-v c = c.from_residual.ensures ∙ no_v c.args.line.now c.in_err-v.ensures

pub returns-in_err-g : goal.returns-in_err-g
returns-in_err-g c =
    c.from_residual-in_err-g.ensures ∙ unread_g _ _ _ c.in_ok-v.ensures c.in_err-g.ensures

pub returns-in_err-disk : goal.returns-in_err-disk
returns-in_err-disk c =
    c.from_residual-in_err-disk.ensures ∙ unread_disk _ _ _ c.in_ok-v.ensures _ _ c.in_ok-g.ensures c.in_err-disk.ensures

pub returns : goal.returns
returns c =
    c.then_some.ensures
    ∙ rw c.is_end.ensures (read_all _ _ _ c.in_ok-v.ensures _ _ c.in_ok-g.ensures _ _ c.in_ok-disk.ensures)
