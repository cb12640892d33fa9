-- `geometry::Geometry::bytes` meets its contract. Assumes nothing.
use native.Mathlib.Omega.{arith}
use mathlib.Core.Path.{◌≡◌}
use Prim.Native.Nat.{◌*◌}
use Rattle.geometry.specs.Geometry.{disks_of, bytes_of}
use Rattle.geometry.proofs.Laws.{bytes_bound}
use Rattle.geometry.proofs.Geometry.bytes.Goals as goal

pub overflow_mul-result-3 : goal.overflow_mul-result-3
unfolding disks_of bytes_of
overflow_mul-result-3 c =
    let e : c.from.result * c.from-2.result * c.from-3.result * c.from-4.result ≡ bytes_of c.args.self = cc in
    omega (arith, bytes_bound c.args.self c.requires)

pub returns : goal.returns
unfolding disks_of bytes_of
returns c = cc
