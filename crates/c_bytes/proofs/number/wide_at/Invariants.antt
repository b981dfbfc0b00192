-- The loop's invariant: the number in the bytes from place i on, and room for it.
use Prim.Native.Nat.{◌+◌, ◌-◌, ◌^◌, ◌<◌}
use mathlib.Core.Path.{◌≡◌}
use Rattle.c_bytes.specs.Numbers.{wide_of}
use Rattle.c_bytes.proofs.number.wide_at.Given as goal

abbrev pub invariant-loop-i : goal.invariant-loop-i
invariant-loop-i l = (l.r ≡ wide_of l.b (l.at + l.i) (l.n - l.i)) × (l.r < 256 ^ (l.n - l.i))
