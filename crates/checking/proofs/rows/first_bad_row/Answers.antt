-- `first_bad_row`: chunk t of the list is row t. Assumes nothing.
use Rattle.std.proofs.Common.{rules, tests, arith}
use Rattle.checking.proofs.Chunks.{first_chunk}
use Rattle.checking.proofs.rows.first_bad_row.Goals as goal

pub returns : goal.returns
returns c =
    let run = c.position.ensures.runs in
    let cut = c.chunks_exact.ensures in
    first_chunk _ _ _ _ _ _ (λ x r h. search (rules, tests)) (λ x r f h. search (rules, tests)) (omega arith) c.requires.size c.args.design
    run.0 (rw (run.1, cut.size, cut.rest) at (cut.runs run.0 run.0.seen (rw (run.1, cut.size) (omega arith)))) _ run.2
