-- `held::develop` meets its contract. Assumes nothing.
use Rattle.std.proofs.Common.{◌≡◌, ℕ, ◌+◌, ◌*◌, add-one, refl, sym}
use native.Mathlib.Nat.{zero-mul, suc-mul}
use lib.ListN.{length}
use Rattle.held.proofs.Rotation.{developed_at}
use Rattle.held.proofs.Filling.{filled_none, filled_part}
use Rattle.held.proofs.develop.Goals as goal

pub loop-i-init : goal.loop-i-init
loop-i-init c = rw zero-mul (filled_none _ _)

pub loop-i-preserved : goal.loop-i-preserved
loop-i-preserved c =
    let i = c.loop-i.i in
    let a = c.args in
    let k : ℕ = length a.set.now in
    let next : (i + 1) * k ≡ i * k + k = rw (add-one i) (suc-mul i k) in
    rw (c.from.ensures, next)
    (filled_part _ _ (i * k) (i * k + k) k _ _ _ refl (λ j q. sym (developed_at a.v a.set.now i j q)) c.develop_row.ensures
    c.loop-i.invariant)
