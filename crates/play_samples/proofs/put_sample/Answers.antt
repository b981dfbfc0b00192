use Prim.Native.Nat.{◌/◌, ◌%◌}
use mathlib.Core.Path.{◌≡◌}
use native.Mathlib.Omega.{arith}
use native.Mathlib.Numerals.{add-one}
use lib.ListN.{length-set}
use Rattle.c_bytes.specs.Numbers.{wide_bytes}
use Rattle.play_samples.proofs.put_sample.Goals as goal

pub bounds-out-at-2 : goal.bounds-out-at-2
bounds-out-at-2 c = simp length-set (omega arith)

pub returns : goal.returns
unfolding wide_bytes
returns c =
    let high : c.args.v / 256 % 256 ≡ c.args.v / 256 = omega arith in
    rw (add-one, high)
