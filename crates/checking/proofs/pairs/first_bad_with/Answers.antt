-- `first_bad_with`: the search goes by the entries a·v+c with c behind a. Assumes nothing.
use Rattle.std.proofs.Common.{◌≡◌, ◌+◌, ◌*◌, get_or, rules, tests}
use Rattle.std.proofs.lemmas.Iterator.{first_from_Range}
use Rattle.checking.proofs.Entries.{first_entry}
use Rattle.checking.proofs.pairs.first_bad_with.Goals as goal

pub returns : goal.returns
returns c =
    let a = c.args in
    first_entry _ _ _ c.find.result (record {
      line = c.requires.0;
      found =
          first_from_Range _ _ _ c.find.result (λ x. get_or a.table.now (a.a * a.v + x) 0 ≡ 1 → ⊥) (λ x. get_or a.table.now (a.a * a.v + x) 0 ≡ 1)
          c.find.ensures.ran (λ x q k. search (rules, tests)) (λ x q k. search (rules, tests));
    })
