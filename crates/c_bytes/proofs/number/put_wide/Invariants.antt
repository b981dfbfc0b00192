-- The loop's invariant: what is left to be stored makes the whole.
use Prim.Native.Nat.{◌+◌, ◌-◌}
use mathlib.Core.Path.{◌≡◌}
use lib.Seq.{sets}
use Rattle.c_bytes.specs.Numbers.{wide_bytes}
use Rattle.c_bytes.proofs.number.put_wide.Given as goal

abbrev pub invariant-loop-i : goal.invariant-loop-i
invariant-loop-i l =
    sets l.b (l.at + l.i) (wide_bytes (l.n - l.i) l.rest) ≡ sets l.initial.b l.at (wide_bytes l.n l.x)
