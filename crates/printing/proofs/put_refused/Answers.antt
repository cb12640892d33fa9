-- `printing::put_refused` meets its contract: the word, and the number after it. Assumes nothing.
use native.Mathlib.Omega.{arith}
use Rattle.printing.proofs.Texts.{number_room, refused_front}
use Rattle.printing.proofs.put_refused.Goals as goal

pub put_number-requires : goal.put_number-requires
put_number-requires c =
    number_room c.args.number (omega arith) _ _ _ c.put_word-at.ensures c.requires

pub returns : goal.returns
returns c =
    refused_front c.args.number (omega arith) _ _ _ c.put_word-at.ensures _ _ c.put_number.ensures
