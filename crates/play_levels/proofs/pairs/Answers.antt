use Prim.Native.Nat.{◌*◌, ◌/◌, ◌%◌, ◌-◌}
use mathlib.Core.Path.{◌≡◌}
use native.Mathlib.Omega.{arith}
use Rattle.play_levels.proofs.pairs.Goals as goal

pub returns : goal.returns
returns c =
    let n = c.args.n in
    let q : n * 5243 / 524288 ≡ n / 100 = omega arith in
    let r : n - 100 * (n / 100) ≡ n % 100 = omega arith in
    rw (q, r)
