-- `held::set_of` meets its contract: the search goes through the table of specs/. Assumes nothing.
use Rattle.std.proofs.Common.{◌≡◌, refl, ap, map, rules, tests}
use Rattle.std.proofs.lemmas.Iterator.{YieldsList-from_slice, first_from_find}
use Rattle.std.specs.Slice.Iter.{iter_rest}
use Rattle.held.specs.Held.{table}
use Rattle.held.proofs.Lookup.{row, nothing_found, row_found}
use Rattle.held.proofs.set_of.Goals as goal

pub returns-in_default : goal.returns-in_default
returns-in_default c =
    let same : map row (iter_rest c.iter.result) ≡ table = ap (map row) c.iter.ensures.rest in
    nothing_found _ _ c.args.v same
    (rw c.in_default.is at
    (first_from_find _ _ c.find.result (λ x. x.v ≡ c.args.v) (λ x. x.v ≡ c.args.v → ⊥) c.find.ensures.ran
    (YieldsList-from_slice (iter_rest c.iter.result) refl) (λ x q k. search (rules, tests)) (λ x q k. search (rules, tests))))

pub returns : goal.returns
returns c =
    let same : map row (iter_rest c.iter.result) ≡ table = ap (map row) c.iter.ensures.rest in
    let h =
    rw c.in-Some.is at
    (first_from_find _ _ c.find.result (λ x. x.v ≡ c.args.v) (λ x. x.v ≡ c.args.v → ⊥) c.find.ensures.ran
    (YieldsList-from_slice (iter_rest c.iter.result) refl) (λ x q k. search (rules, tests)) (λ x q k. search (rules, tests))) in
    row_found _ _ c.args.v c.in-Some.held.now same h.0 h.1 h.2 h.3
